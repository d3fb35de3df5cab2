-- The grammar of templates. A text is read from the front, one piece at a time; texts are lists of characters, and a style is the list of numbers that it writes.
use Rattle.std.specs.Prelude.{◌≡◌, ℕ, Bool, true, false, not, ◌||◌, ◌==◌, nat_lt, List, [], ◌∷◌, ◌++◌, length, drop, take_while, filter, Option, Some, None, option_map, codes, if◌then◌else◌}
use Rattle.std.specs.List.{list_any, prefix_len}
use Rattle.std.specs.Char.{is_ascii_digit, is_ascii_whitespace}
use Rattle.std.specs.Fmt.{◌++?◌, debug_char}
use Rattle.std.specs.Str.{chars}
use Rattle.std.specs.Str.Parse.{digits_value}
use Rattle.indicatif_text.specs.declared.refusal.Refusal.{Refusal}
use Rattle.indicatif_text.specs.declared.refusal.Refusal.TheVariants as refusal
use Rattle.indicatif_text.specs.declared.refusal.TemplateState.{TemplateState}
use Rattle.indicatif_text.specs.declared.refusal.TemplateState.TheVariants.{MaybeOpen, DoubleClose, Align, Width}
use Rattle.indicatif_text.specs.declared.template.Alignment.{Alignment}
use Rattle.indicatif_text.specs.declared.template.Alignment.TheVariants.{Left, Center, Right}
use Rattle.indicatif_text.specs.declared.template.TemplateError.{TemplateError}
use Rattle.indicatif_text.specs.declared.template.Part.{Part}
use Rattle.indicatif_text.specs.declared.template.Part.TheVariants.{Literal, NewLine, Placeholder}
use Rattle.indicatif_text.specs.declared.template.TemplateError.TheVariants.{Unexpected, WidthTooLarge}
use Rattle.indicatif_text.specs.declared.template.TemplateError.TheVariants as error
use Rattle.indicatif_text.specs.StyleWords.{style_of, numbers_of}

-- ---- parts

-- how a placeholder's text is laid out
pub record Layout : Type 0 where
  pub align : Alignment
  pub width : Option ℕ
  pub truncate : Bool
  pub style : Option (List ℕ)
  pub alternative : Option (List ℕ)

-- a part of a template
pub data TemplatePart : Type 0 where
  LiteralText : (text : List ℕ) → TemplatePart
  LineBreak : TemplatePart
  KeyText : (key : List ℕ) → (layout : Layout) → TemplatePart

-- a part of a template, as its definition
unfoldable pub part_of : Part → TemplatePart
part_of (Literal text) = LiteralText (chars text.now)
part_of NewLine = LineBreak
part_of (Placeholder key align width truncate style alternative) =
    KeyText (chars key.now) (record { align = align; width = width; truncate = truncate; style = option_map numbers_of style; alternative = option_map numbers_of alternative })

-- ---- pieces

-- a piece at the front of a text
pub data TemplatePiece : Type 0 where
  -- a literal character, also of a doubled or a last brace
  Char : (c : ℕ) → TemplatePiece
  -- a newline
  Break : TemplatePiece
  -- a brace, key characters and a white space, which are literal
  SpacedBrace : (text : List ℕ) → TemplatePiece
  -- a placeholder
  Keyed : (key : List ℕ) → (layout : Layout) → TemplatePiece
  -- an opening brace at the end of the text
  LastBrace : TemplatePiece
  -- an opening brace and key characters at the end of the text
  LastKey : TemplatePiece

-- the front of a text: something and the text after it, or an error and the text from its place on
pub data Front (A : Type 0) : Type 0 where
  Takes : (rest : List ℕ) → (what : A) → Front A
  Stops : (place : List ℕ) → (error : TemplateError) → Front A

-- the text after the characters in front that pass a test
abbrev pub after_run : (ℕ → Bool) → List ℕ → List ℕ
after_run test text = drop (prefix_len test text) text

-- ---- options: an alignment, digits and exclamation marks in any mix, a style, an alternative style

-- a placeholder with no options
abbrev pub plain_layout : Layout
plain_layout = record { align = Left; width = None; truncate = false; style = None; alternative = None }

-- the alignment that a character names
abbrev pub alignment_of : ℕ → Option Alignment
alignment_of c = if c == 0x3C then Some Left else if c == 0x5E then Some Center else if c == 0x3E then Some Right else None

-- digits joined to one number; none give no width
abbrev pub number_of : List ℕ → Option ℕ
number_of [] = None
number_of (d ∷ ds) = Some (digits_value 10 (d ∷ ds))

-- a number past 65,535
abbrev pub is_too_wide : Option ℕ → Bool
is_too_wide None = false
is_too_wide (Some n) = nat_lt 65535 n

-- a style text's numbers; an empty text is no style
abbrev pub style_named : List ℕ → Option (List ℕ)
style_named [] = None
style_named (c ∷ cs) = Some (style_of (c ∷ cs))

-- the alternative style goes up to a closing brace; it counts only where the brace stands
abbrev pub is_alternative_char : ℕ → Bool
is_alternative_char c = not (c == 0x7D)

-- the end of an alternative style: a closing brace, or the end of the text
abbrev pub alternative_ends : Layout → List ℕ → List ℕ → Front Layout
alternative_ends layout text [] = Takes [] layout
alternative_ends layout text (c ∷ cs) = Takes cs (record layout { alternative = style_named text })

-- an alternative style and what ends it
unfoldable pub with_alternative : Layout → List ℕ → Front Layout
with_alternative layout text =
    alternative_ends layout (take_while is_alternative_char text) (after_run is_alternative_char text)

-- the style goes up to a closing brace, or to a slash and the alternative; it counts only if there is one
abbrev pub is_style_char : ℕ → Bool
is_style_char c = not (c == 0x2F || (c == 0x7D))

-- the end of a style: a closing brace, a slash and the alternative, or the end of the text
abbrev pub style_ends : Layout → List ℕ → List ℕ → Front Layout
style_ends layout text [] = Takes [] layout
style_ends layout text (c ∷ cs) =
    let named = record layout { style = style_named text } in
    if c == 0x7D then Takes cs named else with_alternative named cs

-- a style and what ends it
unfoldable pub with_style : Layout → List ℕ → Front Layout
with_style layout text = style_ends layout (take_while is_style_char text) (after_run is_style_char text)

-- digits and exclamation marks go up to a closing brace, or to a dot and the style; the number counts only if there is one
abbrev pub is_width_char : ℕ → Bool
is_width_char c = is_ascii_digit c || (c == 0x21)

-- the end of a width: a closing brace, a dot and the style, the end of the text, or a character that is refused
abbrev pub width_ends : Layout → Option ℕ → TemplateState → List ℕ → Front Layout
width_ends layout width state [] = Takes [] layout
width_ends layout width state (c ∷ cs) =
    let sized = record layout { width = width } in
    if c == 0x7D then (if is_too_wide width then Stops (c ∷ cs) WidthTooLarge else Takes cs sized)
    else if c == 0x2E then (if is_too_wide width then Stops (c ∷ cs) WidthTooLarge else with_style sized cs)
    else Stops (c ∷ cs) (Unexpected c state)

-- before any digit or exclamation mark, another character is met in the given state
abbrev pub state_after : TemplateState → List ℕ → TemplateState
state_after state [] = state
state_after state (c ∷ cs) = Width

-- a width and what ends it
unfoldable pub with_width : Layout → TemplateState → List ℕ → Front Layout
with_width layout state text =
    let mix = take_while is_width_char text in
    width_ends (record layout { truncate = list_any (λ c. c == 0x21) mix }) (number_of (filter is_ascii_digit mix)) (state_after state mix) (after_run is_width_char text)

-- an alignment may stand before them
abbrev pub aligned : ℕ → List ℕ → Option Alignment → Front Layout
aligned c cs None = with_width plain_layout Align (c ∷ cs)
aligned c cs (Some align) = with_width (record plain_layout { align = align }) Width cs

-- the options of a placeholder
unfoldable pub with_options : List ℕ → Front Layout
with_options [] = Takes [] plain_layout
with_options (c ∷ cs) = aligned c cs (alignment_of c)

-- ---- a piece in front of a text

-- a character of a key
abbrev pub is_key_char : ℕ → Bool
is_key_char c = not (c == 0x3A || (c == 0x7D) || is_ascii_whitespace c)

-- a placeholder with these options
abbrev pub keyed : List ℕ → Front Layout → Front TemplatePiece
keyed key (Takes rest layout) = Takes rest (Keyed key layout)
keyed key (Stops place error) = Stops place error

-- an opening brace, and key characters or none, at the end of the text
abbrev pub unfinished : List ℕ → TemplatePiece
unfinished [] = LastBrace
unfinished (k ∷ key) = LastKey

-- the end of a key: the end of the text, a white space, a closing brace, or a colon and the options; a key isn't empty
abbrev pub key_ends : List ℕ → List ℕ → Front TemplatePiece
key_ends key [] = Takes [] (unfinished key)
key_ends key (c ∷ cs) =
    if is_ascii_whitespace c then Takes cs (SpacedBrace ((0x7B ∷ key) ++ c ∷ []))
    else if length key == 0 then Stops (c ∷ cs) (Unexpected c MaybeOpen)
    else if c == 0x7D then Takes cs (Keyed key plain_layout)
    else keyed key (with_options cs)

-- what an opening brace begins, by the characters after it
abbrev pub opening_brace : List ℕ → Front TemplatePiece
opening_brace [] = Takes [] LastBrace
opening_brace (c ∷ cs) =
    if c == 0x7B then Takes cs (Char 0x7B)
    else key_ends (take_while is_key_char (c ∷ cs)) (after_run is_key_char (c ∷ cs))

-- what a closing brace begins, by the characters after it
abbrev pub closing_brace : List ℕ → Front TemplatePiece
closing_brace [] = Takes [] (Char 0x7D)
closing_brace (c ∷ cs) = if c == 0x7D then Takes cs (Char 0x7D) else Stops (c ∷ cs) (Unexpected c DoubleClose)

-- the front of a text, by its first character and the others
unfoldable pub front : ℕ → List ℕ → Front TemplatePiece
front c cs =
    if c == 0x0A then Takes cs Break else if c == 0x7B then opening_brace cs else if c == 0x7D then closing_brace cs else Takes cs (Char c)

-- ---- whole texts

-- the pieces of a text
pub data Reads : List ℕ → List TemplatePiece → Type 0 where
  end : Reads [] []
  piece : {c : ℕ} {cs rest : List ℕ} {p : TemplatePiece} {ps : List TemplatePiece} → front c cs ≡ Takes rest p → Reads rest ps → Reads (c ∷ cs) (p ∷ ps)

-- the text can't be read: the error, and its place, given by the rest of the text
pub data Refuses : List ℕ → List ℕ → TemplateError → Type 0 where
  here : {c : ℕ} {cs place : List ℕ} {error : TemplateError} → front c cs ≡ Stops place error → Refuses (c ∷ cs) place error
  later : {c : ℕ} {cs rest place : List ℕ} {p : TemplatePiece} {error : TemplateError} → front c cs ≡ Takes rest p → Refuses rest place error → Refuses (c ∷ cs) place error

-- literal characters up to an opening brace at the end
abbrev pub is_open_run : List TemplatePiece → Bool
is_open_run (Char c ∷ ps) = is_open_run ps
is_open_run (LastBrace ∷ ps) = true
is_open_run _ = false

-- an opening brace at the end removes the literal characters before it
abbrev pub without_open_run : List TemplatePiece → List TemplatePiece
without_open_run [] = []
without_open_run (p ∷ ps) = if is_open_run (p ∷ ps) then [] else p ∷ without_open_run ps

-- parts with a literal text in front; neighbouring ones are one part
abbrev pub onto_literal : List ℕ → List TemplatePart → List TemplatePart
onto_literal text (LiteralText more ∷ parts) = LiteralText (text ++ more) ∷ parts
onto_literal text parts = LiteralText text ∷ parts

-- the parts of pieces, one for each; an unfinished key at the end gives none
abbrev pub joined_parts : List TemplatePiece → List TemplatePart
joined_parts [] = []
joined_parts (Char c ∷ ps) = onto_literal (c ∷ []) (joined_parts ps)
joined_parts (Break ∷ ps) = LineBreak ∷ joined_parts ps
joined_parts (SpacedBrace text ∷ ps) = onto_literal text (joined_parts ps)
joined_parts (Keyed key layout ∷ ps) = KeyText key layout ∷ joined_parts ps
joined_parts (LastBrace ∷ ps) = joined_parts ps
joined_parts (LastKey ∷ ps) = joined_parts ps

-- the parts that pieces make
unfoldable pub parts_of : List TemplatePiece → List TemplatePart
parts_of ps = joined_parts (without_open_run ps)

-- the text is a template with these parts
pub record Parses (text : List ℕ) (parts : List TemplatePart) : Type 0 where
  pub pieces : List TemplatePiece
  pub reads : Reads text pieces
  pub makes : parts_of pieces ≡ parts

-- the text is refused with this error
abbrev pub IsRefused : List ℕ → TemplateError → Type 0
IsRefused text error = (place : List ℕ) × Refuses text place error

-- ---- refusals

-- the refusal of a template's error
abbrev pub refusal_of : TemplateError → Refusal
refusal_of (error.Unexpected next state) = refusal.Template next state
refusal_of error.WidthTooLarge = refusal.WidthTooLarge
refusal_of error.Memory = refusal.Memory

-- the name of a state
abbrev pub state_name : TemplateState → List ℕ
state_name MaybeOpen = codes "MaybeOpen"
state_name DoubleClose = codes "DoubleClose"
state_name Align = codes "Align"
state_name Width = codes "Width"

-- the text of a template's error, with the character in quotes as `{:?}` shows it; no text is defined for one past ASCII
abbrev pub error_text : TemplateError → Option (List ℕ)
error_text (error.Unexpected next state) = Some (codes "TemplateError: unexpected character ") ++? debug_char next ++? Some (codes " in state ") ++? Some (state_name state)
error_text error.WidthTooLarge = Some (codes "TemplateError: width too large")
error_text error.Memory = Some (codes "TemplateError: out of memory")
