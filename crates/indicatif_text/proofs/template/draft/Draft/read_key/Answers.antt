use Rattle.std.proofs.Common.{[], ◌∷◌, ◌++◌, ◌∙◌, ap, sym, inr}
use Rattle.std.specs.Prelude.{chars}
use Rattle.indicatif_text.specs.Template.{SpacedBrace, Keyed, plain_layout, keyed, unfinished, with_options, key_ends}
use Rattle.indicatif_text.specs.declared.template.stored_parts.PartKind.TheVariants.{Key}
use Rattle.indicatif_text.specs.Inside.Draft.{sketch_of, parted_sketch}
use Rattle.indicatif_text.proofs.DraftLemmas.{taken_same}
use Rattle.indicatif_text.proofs.TokenLemmas.{no_chars, has_chars, key_open, key_spaced, key_missing, key_closed, key_options}
use Rattle.indicatif_text.proofs.template.draft.Draft.read_key.Goals as goal

pub returns-in_default : goal.returns-in_default
returns-in_default c = (unfinished (chars c.args.key.now), key_open (chars c.args.key.now) (chars c.args.after.now) c.in_default.ensures.first, c.push_unfinished.ensures)

pub returns-then-is_ascii_whitespace : goal.returns-then-is_ascii_whitespace
returns-then-is_ascii_whitespace c = (
  SpacedBrace ((0x7B ∷ chars c.args.key.now) ++ c.in-Some.end ∷ []),
  key_spaced (chars c.args.key.now) (chars c.args.after.now) c.in-Some.end (chars c.in-Some.rest.now) c.in-Some.ensures.first
      (sym c.is_ascii_whitespace.ensures.value ∙ c.if-is_ascii_whitespace.true),
  c.in_ok-push_spaced.ensures,
)

pub returns-then-is_empty : goal.returns-then-is_empty
returns-then-is_empty c = inr (
  c.in-Some.end ∷ chars c.in-Some.rest.now,
  key_missing (chars c.args.key.now) (chars c.args.after.now) c.in-Some.end (chars c.in-Some.rest.now) c.in-Some.ensures.first
      (sym c.is_ascii_whitespace.ensures.value ∙ c.if-is_ascii_whitespace.false) (no_chars c.args.key.now c.if-is_empty.ensures),
)

pub returns-then-end-ne125 : goal.returns-then-end-ne125
returns-then-end-ne125 c =
    let key = chars c.args.key.now in
    let rest = chars c.in-Some.rest.now in
    taken_same (keyed key (with_options rest)) (key_ends key (chars c.args.after.now)) (sketch_of c.args.self.now) (sketch_of c.read_options.new.self) c.read_options.result
    (sym (key_options key (chars c.args.after.now) c.in-Some.end rest c.in-Some.ensures.first (sym c.is_ascii_whitespace.ensures.value ∙ c.if-is_ascii_whitespace.false)
    (has_chars c.args.key.now c.utf8.key c.if-is_empty.ensures) c.if-end-ne125.true))
    (c.read_options.ensures (sketch_of c.args.self.now) key c.in_ok-push_name.ensures)

pub returns : goal.returns
returns c = (
  Keyed (chars c.args.key.now) plain_layout,
  key_closed (chars c.args.key.now) (chars c.args.after.now) c.in-Some.end (chars c.in-Some.rest.now) c.in-Some.ensures.first
      (sym c.is_ascii_whitespace.ensures.value ∙ c.if-is_ascii_whitespace.false) (has_chars c.args.key.now c.utf8.key c.if-is_empty.ensures) c.if-end-ne125.false,
  c.in_ok-close.ensures ∙ ap (λ s. parted_sketch s Key) c.in_ok-push_name.ensures,
)
