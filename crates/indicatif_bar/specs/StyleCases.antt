-- The worked cases of a bar's lines. Texts are lists of bytes in UTF-8; those in ASCII are written as strings.
use Rattle.std.specs.Prelude.{◌≡◌, ℕ, Bool, true, false, [], ◌∷◌, ◌++◌, List, Option, Some, None, codes, encode_utf8, encode_utf8_all}
use Rattle.indicatif_text.specs.declared.template.Alignment.TheVariants.{Center}
use Rattle.indicatif_text.specs.declared.refusal.Refusal.TheVariants.{FewTicks, FewProgressChars, UnequalWidths, ZeroWidthChars}
use Rattle.indicatif_text.specs.Template.{TemplatePart, LiteralText, LineBreak, KeyText}
use Rattle.indicatif_text.specs.Template.{plain_layout}
use Rattle.indicatif_text.specs.ColumnCases.{escape}
use Rattle.indicatif_text.specs.StyleWords.{style_of}
use Rattle.indicatif_bar.specs.Measures.{greatest_u64, first_samples, recorded}
use Rattle.indicatif_bar.specs.Progress.{Progress, new_progress}
use Rattle.indicatif_bar.specs.Trackers.{Tracking, telling}
use Rattle.indicatif_bar.specs.Keys.{tick_string, final_tick_string}
use Rattle.indicatif_bar.specs.Styles.{BarStyle, lines, is_empty_style}
use Rattle.indicatif_bar.specs.Builders.{tick_fault, progress_fault, clusters_of, characters_of}

-- a tracker whose text is itself
abbrev pub text_itself : Tracking (List ℕ)
text_itself = telling (λ k p now. k)

abbrev pub key : List ℕ → TemplatePart
key name = KeyText name plain_layout

abbrev pub key_wide : List ℕ → ℕ → TemplatePart
key_wide name width = KeyText name (record plain_layout { width = Some width })

abbrev pub style_with : List TemplatePart → BarStyle (List ℕ)
style_with parts = record { parts = parts; clusters = codes "=" ∷ codes ">" ∷ codes "-" ∷ []; tick_strings = codes "1" ∷ codes "2" ∷ codes "F" ∷ []; keys = []; colours = false; tab = 8 }

abbrev pub one : TemplatePart → BarStyle (List ℕ)
one part = style_with (part ∷ [])

abbrev pub reached : ℕ → Option ℕ → Progress
reached position len = record (new_progress len 0) { position = position }

abbrev pub saying : List ℕ → Progress
saying text = record (new_progress None 0) { message = text }

abbrev pub shows : BarStyle (List ℕ) → Progress → ℕ → List (List ℕ)
shows style p columns = lines text_itself style p 0 columns

abbrev pub foo : BarStyle (List ℕ)
foo = record (one (KeyText (codes "foo") (record plain_layout { align = Center; width = Some 5; style = Some (style_of (codes "red.on_blue")) }))) { keys = (codes "foo", codes "XXX") ∷ [] }

-- a tracker's text, padded and coloured, and with its tabs expanded
abbrev pub TrackersCases : Type 0
TrackersCases = (shows (record foo { colours = true }) (reached 0 None) 80 ≡ (escape ++ codes "[31m" ++ escape ++ codes "[44m XXX " ++ escape ++ codes "[0m") ∷ [])
    × (shows foo (reached 0 None) 80 ≡ codes " XXX " ∷ [])
    × (shows (record (one (key (codes "t"))) { keys = (codes "t", codes "a" ++ (9 ∷ []) ++ codes "b") ∷ []; tab = 4 }) (reached 0 None) 80 ≡ codes "a    b" ∷ [])

abbrev pub wide_bar : BarStyle (List ℕ)
wide_bar = one (key (codes "wide_bar"))

-- bars that fill their line
abbrev pub WideBarCases : Type 0
WideBarCases = (shows wide_bar (reached 2 (Some 4)) 8 ≡ codes "====>---" ∷ []) × (shows wide_bar (reached 1 (Some greatest_u64)) 8 ≡ codes ">-------" ∷ [])
    × (shows wide_bar (reached 9 (Some 4)) 8 ≡ codes "========" ∷ []) × (shows wide_bar (reached 0 (Some 0)) 8 ≡ codes "========" ∷ [])
    × (shows (record (one (KeyText (codes "wide_bar") (record plain_layout { style = Some (style_of (codes "red.on_blue")); alternative = Some (style_of (codes "green.on_cyan")) })))
    { colours = true }) (reached 2 (Some 4)) 8
    ≡ (escape ++ codes "[31m" ++ escape ++ codes "[44m====>" ++ escape ++ codes "[32m" ++ escape ++ codes "[46m---" ++ escape ++ codes "[0m" ++ escape ++ codes "[0m") ∷ [])

-- hundredths, ties to even
abbrev pub PercentCases : Type 0
PercentCases = (shows (one (key (codes "percent"))) (reached 1 (Some 8)) 80 ≡ codes "12" ∷ []) × (shows (one (key (codes "percent"))) (reached 3 (Some 8)) 80 ≡ codes "38" ∷ [])
    × (shows (one (key (codes "percent_precise"))) (reached 1 (Some 8)) 80 ≡ codes "12.500" ∷ [])

-- messages: wide, truncated, with fillers of their own
abbrev pub MessageCases : Type 0
MessageCases = (shows (one (key (codes "wide_msg"))) (saying (encode_utf8_all (codes "abcdefghij" ++ (0x308 ∷ []) ++ codes "klmnopqrst"))) 10 ≡ encode_utf8_all (codes "abcdefghij" ++ 0x308 ∷ []) ∷ [])
    × (shows (one (KeyText (codes "msg") (record plain_layout { width = Some 5; align = Center; truncate = true }))) (saying (codes "abcdefgh")) 80 ≡ codes "bcdef" ∷ [])
    × (shows (style_with (key (codes "wide_msg") ∷ LiteralText (codes "|") ∷ [])) (saying (codes "ab")) 10 ≡ codes "ab       |" ∷ [])
    × (shows (one (key (codes "wide_msg"))) (saying (codes "ab")) 10 ≡ codes "ab" ∷ [])
    × (shows (style_with (key (codes "msg") ∷ key (codes "wide_bar") ∷ [])) (record (saying (codes "x" ++ (0 ∷ []) ++ codes "y")) { len = Some 4 }) 10 ≡ codes "x--------y--------" ∷ [])

abbrev pub bar_of : List (List ℕ) → ℕ → BarStyle (List ℕ)
bar_of clusters width = record (one (key_wide (codes "bar") width)) { clusters = clusters }

-- bars with shades, without any, and of wide characters
abbrev pub BarCases : Type 0
BarCases = let shaded = codes "=" ∷ codes "A" ∷ codes "B" ∷ codes "-" ∷ [] in
    (shows (bar_of shaded 4) (reached 5 (Some 8)) 80 ≡ codes "==A-" ∷ []) × (shows (bar_of shaded 4) (reached 1 (Some 8)) 80 ≡ codes "A---" ∷ [])
    × (shows (bar_of shaded 4) (reached 2 (Some 4)) 80 ≡ codes "==B-" ∷ [])
    × (shows (bar_of (codes "=" ∷ codes "-" ∷ []) 4) (reached 5 (Some 8)) 80 ≡ codes "==--" ∷ [])
    × (shows (bar_of (encode_utf8 0x56FD ∷ encode_utf8 0x672C ∷ encode_utf8 0x7A7A ∷ []) 5) (reached 1 (Some 2)) 80 ≡ encode_utf8_all (0x56FD ∷ 0x672C ∷ 0x20 ∷ []) ∷ [])

-- spinners
abbrev pub TickCases : Type 0
TickCases = let strings = characters_of (codes "12F") in (tick_string strings 5 ≡ codes "2") × (final_tick_string strings ≡ codes "F")

-- a rate, whose width is also the number of its decimals
abbrev pub RateCases : Type 0
RateCases = let p = record (reached 3 None) { samples = recorded (first_samples 0) 3 2000000000 } in
    (lines text_itself (one (key_wide (codes "per_sec") 8)) p 2000000000 80 ≡ codes "1.5/s   " ∷ [])
    × (lines text_itself (one (key_wide (codes "per_sec") 0)) p 2000000000 80 ≡ codes "2/s" ∷ [])

-- line breaks, and an unknown key
abbrev pub LineCases : Type 0
LineCases = (shows (style_with (LiteralText (codes "a") ∷ LineBreak ∷ LiteralText (codes "b") ∷ [])) (reached 0 None) 80 ≡ codes "a" ∷ codes "b" ∷ [])
    × (shows (style_with (LiteralText (codes "a") ∷ LineBreak ∷ [])) (reached 0 None) 80 ≡ codes "a" ∷ [])
    × (shows (style_with (LineBreak ∷ LiteralText (codes "b") ∷ [])) (reached 0 None) 80 ≡ [] ∷ codes "b" ∷ [])
    × (shows (one (key (codes "no_such_key"))) (reached 0 None) 80 ≡ [])
    × (shows (one (key (codes "msg"))) (saying (codes "a" ++ (10 ∷ []) ++ codes "b")) 80 ≡ codes "a" ∷ codes "b" ∷ [])

-- whether it shows nothing with an empty prefix and message
abbrev pub shows_nothing : BarStyle (List ℕ) → Bool
shows_nothing style = is_empty_style style (reached 1 (Some 8))

abbrev pub red : BarStyle (List ℕ)
red = one (KeyText (codes "msg") (record plain_layout { style = Some (style_of (codes "red")) }))

-- a message that is empty, an unknown key, a bar of no columns; and what still shows: colours, blanks, a line break, a tracker
abbrev pub EmptyCases : Type 0
EmptyCases = (shows_nothing (style_with (key (codes "msg") ∷ key (codes "prefix") ∷ key (codes "no_such_key") ∷ [])) ≡ true) × (shows_nothing (one (key_wide (codes "bar") 0)) ≡ true)
    × (shows_nothing (one (key (codes "bar"))) ≡ false) × (shows_nothing red ≡ true) × (shows_nothing (record red { colours = true }) ≡ false)
    × (shows (record red { colours = true }) (reached 1 (Some 8)) 80 ≡ (escape ++ codes "[31m" ++ escape ++ codes "[0m") ∷ [])
    × (shows_nothing (one (key_wide (codes "msg") 1)) ≡ false) × (shows_nothing (one LineBreak) ≡ false)
    × (shows_nothing (record (one (key (codes "msg"))) { keys = (codes "msg", []) ∷ [] }) ≡ false)

-- the refusals of builders
abbrev pub FaultCases : Type 0
FaultCases = (tick_fault (characters_of (codes "a")) ≡ Some FewTicks) × (tick_fault (characters_of (codes "12F")) ≡ None)
    × (progress_fault (clusters_of (codes "=")) ≡ Some FewProgressChars) × (progress_fault (clusters_of (encode_utf8_all (97 ∷ 0x56FD ∷ []))) ≡ Some UnequalWidths)
    × (progress_fault (clusters_of (1 ∷ 2 ∷ [])) ≡ Some ZeroWidthChars) × (progress_fault (clusters_of (codes "=>-")) ≡ None)
    × (clusters_of (encode_utf8_all (codes "+e" ++ (0x308 ∷ []) ++ codes "o")) ≡ codes "+" ∷ encode_utf8_all (101 ∷ 0x308 ∷ []) ∷ codes "o" ∷ [])
