-- A partly read template, by the grammar.
use Rattle.std.specs.Prelude.{◌≡◌, ◌⊎◌, ℕ, List, [], ◌∷◌, ◌++◌, map, take, drop, string_bytes, if◌then◌else◌, Result, MatchResult}
use Rattle.std.specs.Borrow.{Bor}
use Rattle.std.specs.Str.{chars}
use Rattle.indicatif_text.specs.declared.template.TemplateError.{TemplateError}
use Rattle.indicatif_text.specs.declared.template.TemplateError.TheVariants.{Memory}
use Rattle.indicatif_text.specs.declared.template.draft.Draft.{Draft}
use Rattle.indicatif_text.specs.declared.template.stored_parts.PartKind.{PartKind}
use Rattle.indicatif_text.specs.Template.{TemplatePart, LiteralText, LineBreak, KeyText, TemplatePiece, Char, Break, SpacedBrace, Keyed, LastBrace, LastKey, Front, Takes, Stops, Reads, Refuses, is_open_run, without_open_run, onto_literal, joined_parts}
use Rattle.indicatif_text.specs.Inside.StoredParts.{part_with, part_at}

-- a partly read template: its parts so far, the literal text that stays in any case, and the literal run that an opening brace at the end would remove
pub record Sketch : Type 0 where
  pub done : List TemplatePart
  pub fixed : List ℕ
  pub run : List ℕ

-- the code's draft, by the grammar: after the texts of its parts, the given number of bytes of the literal text stay in any case; the others are the run
unfoldable pub sketch_of : Draft → Sketch
sketch_of d = record {
  done = map (part_at (take d.start (string_bytes d.texts))) d.parts.items;
  fixed = chars (take d.fixed (drop d.start (string_bytes d.texts)));
  run = chars (drop d.fixed (drop d.start (string_bytes d.texts)));
}

-- nothing drafted yet
abbrev pub empty_sketch : Sketch
empty_sketch = record { done = []; fixed = []; run = [] }

-- a literal text as a part, if it has a character
abbrev pub literal_part : List ℕ → List TemplatePart
literal_part [] = []
literal_part (c ∷ cs) = LiteralText (c ∷ cs) ∷ []

-- the parts of a sketch
abbrev pub sketched_parts : Sketch → List TemplatePart
sketched_parts s = s.done ++ literal_part (s.fixed ++ s.run)

-- a sketch whose literal run stays in any case
abbrev pub fixed_sketch : Sketch → Sketch
fixed_sketch s = record s { fixed = s.fixed ++ s.run; run = [] }

-- a sketch whose literal text became a part
abbrev pub closed_sketch : Sketch → Sketch
closed_sketch s = record { done = sketched_parts s; fixed = []; run = [] }

-- a sketch whose text became a part of this kind
abbrev pub parted_sketch : Sketch → PartKind → Sketch
parted_sketch s kind = record { done = s.done ++ part_with kind (s.fixed ++ s.run) ∷ []; fixed = []; run = [] }

-- a sketch with a further part
abbrev pub with_part : Sketch → TemplatePart → Sketch
with_part s part = record { done = sketched_parts s ++ part ∷ []; fixed = []; run = [] }

-- a sketch with further literal characters
abbrev pub with_run : Sketch → List ℕ → Sketch
with_run s text = record s { run = s.run ++ text }

-- a sketch with a further piece
abbrev pub added : Sketch → TemplatePiece → Sketch
added s (Char c) = record s { run = s.run ++ c ∷ [] }
added s Break = with_part s LineBreak
added s (SpacedBrace text) = record s { fixed = (s.fixed ++ s.run) ++ text; run = [] }
added s (Keyed key layout) = with_part s (KeyText key layout)
added s LastBrace = record s { run = [] }
added s LastKey = s

-- parts with a literal text in front, if it has a character
abbrev pub after_text : List ℕ → List TemplatePart → List TemplatePart
after_text [] parts = parts
after_text (c ∷ cs) parts = onto_literal (c ∷ cs) parts

-- the parts of a sketch and the pieces that follow it
unfoldable pub completed : Sketch → List TemplatePiece → List TemplatePart
completed s ps = s.done ++ (if is_open_run ps then after_text s.fixed [] else after_text (s.fixed ++ s.run) (joined_parts (without_open_run ps)))

-- from one sketch and the rest of a text to another: the outcome of the rest is that of the text
pub record ReadsOn (before : Sketch) (text : List ℕ) (after : Sketch) (rest : List ℕ) : Type 0 where
  pub reads : (ps : List TemplatePiece) → Reads rest ps → (qs : List TemplatePiece) × Reads text qs × (completed before qs ≡ completed after ps)
  pub refuses : (place : List ℕ) (error : TemplateError) → Refuses rest place error → Refuses text place error

-- a draft has read the front of a text, and this text is left; or the error of the text, wherever its place, or want of memory
abbrev pub TakesIn : Front TemplatePiece → Sketch → Sketch → Result (Bor (List ℕ)) TemplateError → Type 0
TakesIn front before after answer =
    MatchResult answer (λ rest. (piece : TemplatePiece) × (front ≡ Takes (chars rest.now) piece) × (after ≡ added before piece)) (λ e. (e ≡ Memory) ⊎ ((place : List ℕ) × (front ≡ Stops place e)))
