-- Each case computes.
use Rattle.std.proofs.Common.{refl}
use Rattle.std.specs.Fmt.{digits}
use Rattle.std.specs.Str.{chars, is_utf8}
use Rattle.std.proofs.Math.Utf8.{encode}
use Rattle.indicatif_term.proofs.cases.calls_as_text.Goals as goal

pub returns-clause-up : goal.returns-clause-up
unfolding digits
returns-clause-up c = refl

pub returns-clause-down : goal.returns-clause-down
unfolding digits
returns-clause-down c = refl

pub returns-clause-letter : goal.returns-clause-letter
unfolding is_utf8 chars encode
returns-clause-letter c = refl

pub returns-clause-quote : goal.returns-clause-quote
unfolding is_utf8 chars encode
returns-clause-quote c = refl

pub returns-clause-backslash : goal.returns-clause-backslash
unfolding is_utf8 chars encode
returns-clause-backslash c = refl

pub returns-clause-line_feed : goal.returns-clause-line_feed
unfolding is_utf8 chars encode
returns-clause-line_feed c = refl

pub returns-clause-carriage_return : goal.returns-clause-carriage_return
unfolding is_utf8 chars encode
returns-clause-carriage_return c = refl

pub returns-clause-tab : goal.returns-clause-tab
unfolding is_utf8 chars encode
returns-clause-tab c = refl

pub returns-clause-nul : goal.returns-clause-nul
unfolding is_utf8 chars encode
returns-clause-nul c = refl

pub returns-clause-bell : goal.returns-clause-bell
unfolding is_utf8 chars encode
returns-clause-bell c = refl

pub returns-clause-escape : goal.returns-clause-escape
unfolding is_utf8 chars encode
returns-clause-escape c = refl

pub returns-clause-delete : goal.returns-clause-delete
unfolding is_utf8 chars encode
returns-clause-delete c = refl

pub returns-clause-text : goal.returns-clause-text
unfolding is_utf8 chars encode
returns-clause-text c = refl

pub returns-clause-escaped : goal.returns-clause-escaped
unfolding is_utf8 chars encode
returns-clause-escaped c = refl

pub returns-clause-wide : goal.returns-clause-wide
unfolding is_utf8 chars encode
returns-clause-wide c = refl
