-- Each case computes.
use Rattle.std.proofs.Common.{refl}
use Rattle.std.specs.Fmt.{digits}
use Rattle.std.proofs.Math.Utf8.{encode}
use Rattle.unicode_width.specs.Width.{char_width}
use Rattle.indicatif_term.proofs.cases.calm_texts.Goals as goal

pub returns-clause-text : goal.returns-clause-text
unfolding digits encode char_width
returns-clause-text c = refl

pub returns-clause-letter : goal.returns-clause-letter
unfolding char_width encode
returns-clause-letter c = refl

pub returns-clause-joiner : goal.returns-clause-joiner
unfolding char_width encode
returns-clause-joiner c = refl

pub returns-clause-bell : goal.returns-clause-bell
unfolding char_width
returns-clause-bell c = refl

pub returns-clause-escape : goal.returns-clause-escape
unfolding char_width
returns-clause-escape c = refl

pub returns-clause-delete : goal.returns-clause-delete
unfolding char_width
returns-clause-delete c = refl

pub returns-clause-surrogate : goal.returns-clause-surrogate
returns-clause-surrogate c = refl

pub returns-clause-past : goal.returns-clause-past
returns-clause-past c = refl

pub returns-clause-home : goal.returns-clause-home
returns-clause-home c = refl

pub returns-clause-quiet : goal.returns-clause-quiet
returns-clause-quiet c = refl

pub returns-clause-broken : goal.returns-clause-broken
returns-clause-broken c = refl

pub returns-clause-rings : goal.returns-clause-rings
returns-clause-rings c = refl

pub returns-clause-resets : goal.returns-clause-resets
returns-clause-resets c = refl

pub returns-clause-renames : goal.returns-clause-renames
returns-clause-renames c = refl
