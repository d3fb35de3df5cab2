-- What stands at the front of a text: a colour sequence in bytes as in characters, and characters of as many columns that are passed at once.
use Rattle.std.proofs.Common.{replicate, ◌*◌, ◌≡◌, ℕ, zero, suc, ◌+◌, ◌-◌, ◌<◌, ◌≤◌, Bool, true, false, List, [], ◌∷◌, ◌++◌, length, take, drop, refl, sym, ◌∙◌, ap, subst, arith, eqb, Option, Some, None, inl, inr, get_or, append-nil, ◌⊎◌, take-append-drop, length-append, append_assoc, if◌then◌else◌, ◌&&◌}
use Rattle.std.specs.Prelude.{◌==◌, unwrap_or, option_map, chars, is_some}
use Rattle.std.specs.Str.{IsUtf8, IsAscii}
use Rattle.std.proofs.Math.Utf8.{encode, encodes}
use Rattle.std.proofs.Math.Seq.{drop-append_seam, take-append_seam}
use Rattle.std.proofs.lemmas.Str.{inside_one, length-encode, len_utf8_bounds, encodes-chars, chars_past_char, chars-append, chars-IsAscii, IsUtf8-from_ascii, IsUtf8-past_char, encode_ascii}
use Rattle.std.proofs.lemmas.List.{length-take-le, drop_all, length-replicate, take-append-le}
use Rattle.std.proofs.lemmas.Bool.{cond_both, cases_lt, ne_eqb}
use Rattle.std.proofs.lemmas.Bool.Decides.{nat_tests}
use Rattle.std.specs.Prelude.{All}
use Rattle.std.proofs.lemmas.List.Elements.{All-replicate, All-nil, All-cons, All-head, All-tail, All-weaker}
use Rattle.std.proofs.lemmas.Str.Ascii.{IsAscii-from_all}
use Rattle.indicatif_text.specs.Inside.Runs.{IsPrintable, HasWidth, PassesRun, times_then}
use Rattle.indicatif_text.proofs.WidthLemmas.{plain_width}
use Rattle.indicatif_text.specs.Columns.{colour_length, parameters_length, is_parameter, visible, visible_from, width_of}

-- ---- a text that was read up to a place, with ASCII alone before it

pub record Scanned (text : List ℕ) (count : ℕ) (rest : List ℕ) : Type 0 where
  pub front : List ℕ
  pub whole : text ≡ front ++ rest
  pub many : length front ≡ count
  pub ascii : IsAscii front
  pub utf8 : IsUtf8 rest

module _ (text rest : List ℕ) (count : ℕ) (s : Scanned text count rest) where
  pub scanned_front : take count text ≡ s.front
  scanned_front = ap (λ n. take n text) (sym s.many) ∙ ap (λ t. take (length s.front) t) s.whole ∙ take-append_seam s.front rest

  pub scanned_ascii : IsAscii (take count text)
  scanned_ascii = subst IsAscii (sym scanned_front) s.ascii

  pub scanned_chars : chars text ≡ s.front ++ chars rest
  scanned_chars = ap chars s.whole ∙ chars-append s.front rest (IsUtf8-from_ascii s.front s.ascii) ∙ ap (λ x. x ++ chars rest) (chars-IsAscii s.front s.ascii)

  pub scanned_chars_front : take count (chars text) ≡ chars (take count text)
  scanned_chars_front =
      ap (take count) scanned_chars ∙ ap (λ n. take n (s.front ++ chars rest)) (sym s.many) ∙ take-append_seam s.front (chars rest)
      ∙ sym (chars-IsAscii s.front s.ascii) ∙ ap chars (sym scanned_front)

  pub scanned_chars_rest : drop count (chars text) ≡ chars rest
  scanned_chars_rest = ap (drop count) scanned_chars ∙ ap (λ n. drop n (s.front ++ chars rest)) (sym s.many) ∙ drop-append_seam s.front (chars rest)

-- a text whose beginning is ASCII
pub scanned_by : (text : List ℕ) (count : ℕ) → count ≤ length text → IsAscii (take count text) → IsUtf8 (drop count text) → Scanned text count (drop count text)
scanned_by text count fits ascii u = record {
  front = take count text;
  whole = sym (take-append-drop count text);
  many = length-take-le count text fits;
  ascii = ascii;
  utf8 = u;
}

-- ---- the end of a colour sequence

drop_first : (count : ℕ) (cs : List ℕ) → count < length cs → drop count cs ≡ get_or cs count 0 ∷ drop (count + 1) cs
drop_first count [] some = absurd (omega (arith, some))
drop_first zero (c ∷ cs) some = refl
drop_first (suc count) (c ∷ cs) some =
    let same : suc (count + 1) ≡ suc count + 1 = omega arith in
    drop_first count cs (omega (arith, some)) ∙ ap (λ k. get_or cs count 0 ∷ drop k (c ∷ cs)) same

-- how long the sequence is whose first characters were read; 0 where it is none
abbrev pub found : ℕ → List ℕ → ℕ
found count cs = unwrap_or (option_map (λ n. n + count) (parameters_length cs)) 0

no_escape_front : (c : ℕ) (cs : List ℕ) → eqb c 0x1B ≡ false → colour_length (c ∷ cs) ≡ None
no_escape_front c [] other = refl
no_escape_front c (d ∷ cs) other = rw other refl

more_by : (count : ℕ) (o : Option ℕ) → unwrap_or (option_map (λ n. n + count) (option_map (λ n. n + 1) o)) 0 ≡ unwrap_or (option_map (λ n. n + (count + 1)) o) 0
more_by count None = refl
more_by count (Some n) = omega arith

parameter_other : (c : ℕ) → is_parameter c ≡ true → eqb c 0x6D ≡ false
parameter_other c e = grind (arith, nat_tests)

pub found_more : (count : ℕ) (cs : List ℕ) → count < length cs → is_parameter (get_or cs count 0) ≡ true → found count (drop count cs) ≡ found (count + 1) (drop (count + 1) cs)
found_more count cs some is =
    let first : drop count cs ≡ get_or cs count 0 ∷ drop (count + 1) cs = drop_first count cs some in
    ap (found count) first ∙ rw (parameter_other (get_or cs count 0) is, is) (more_by count (parameters_length (drop (count + 1) cs)))

pub found_end : (count : ℕ) (cs : List ℕ) → count < length cs → get_or cs count 0 ≡ 0x6D → found count (drop count cs) ≡ count + 1
found_end count cs some e =
    let first : drop count cs ≡ get_or cs count 0 ∷ drop (count + 1) cs = drop_first count cs some in
    ap (found count) first ∙ rw e (omega arith)

pub found_none : (count : ℕ) (cs : List ℕ) → count < length cs → (get_or cs count 0 ≡ 0x6D → ⊥) → is_parameter (get_or cs count 0) ≡ false → found count (drop count cs) ≡ 0
found_none count cs some other is =
    let first : drop count cs ≡ get_or cs count 0 ∷ drop (count + 1) cs = drop_first count cs some in
    let test : eqb (get_or cs count 0) 0x6D ≡ false = ne_eqb (get_or cs count 0) 0x6D other in
    ap (found count) first ∙ rw (test, is) refl

pub found_cut : (count : ℕ) (cs : List ℕ) → length cs ≤ count → found count (drop count cs) ≡ 0
found_cut count cs past = ap (found count) (drop_all count cs past)

-- ---- bytes of a text and its characters

-- what begins with a byte past ASCII
record HighFirst (bs : List ℕ) : Type 0 where
  byte : ℕ
  more : List ℕ
  parts : bs ≡ byte ∷ more
  past : 128 ≤ byte

high_list : (bs rest : List ℕ) → 0 < length bs → 128 ≤ get_or bs 0 0 → HighFirst (bs ++ rest)
high_list [] rest some past = absurd (omega (arith, some))
high_list (b ∷ bs) rest some past = record { byte = b; more = bs ++ rest; parts = refl; past = past }

high_first : (c : ℕ) (rest : List ℕ) → 128 ≤ c → HighFirst (encode c ++ rest)
high_first c rest past =
    let some : 0 < length (encode c) = omega (arith, length-encode c, (len_utf8_bounds c).0) in
    high_list (encode c) rest some (elim (cases_lt (get_or (encode c) 0 0) 128) [
      | inl small ↦ absurd (omega (arith, past, small, inside_one c [] (encode c) 0 (sym (append-nil (encode c))) some small))
      | inr large ↦ large
    ])

parameters_high : (c : ℕ) (cs : List ℕ) → 128 ≤ c → parameters_length (c ∷ cs) ≡ None
parameters_high c cs past =
    let test : eqb c 0x6D ≡ false = ne_eqb c 0x6D (λ e. omega (arith, e, past)) in
    let is : is_parameter c ≡ false = grind (arith, nat_tests) in
    rw (test, is) refl

parameters_encodes : (cs : List ℕ) → parameters_length (encodes cs) ≡ parameters_length cs
parameters_encodes [] = refl
parameters_encodes (c ∷ cs) = elim (cases_lt c 128) [
  | inl low ↦
      ap (λ x. parameters_length (x ++ encodes cs)) (encode_ascii c low)
      ∙ ap (λ o. if c == 0x6D then Some 1 else if is_parameter c then option_map (λ n. n + 1) o else None) (parameters_encodes cs)
  | inr past ↦ let first = high_first c (encodes cs) past in ap parameters_length first.parts ∙ parameters_high first.byte first.more first.past ∙ sym (parameters_high c cs past)
]

no_bracket : (c d : ℕ) (cs : List ℕ) → eqb d 0x5B ≡ false → colour_length (c ∷ d ∷ cs) ≡ None
no_bracket c d cs other = rw other (never (c == 0x1B) (option_map (λ n. n + 2) (parameters_length cs))) where
  never : (b : Bool) (o : Option ℕ) → (if b && false then o else None) ≡ None
  never true o = refl
  never false o = refl

colour_encodes : (cs : List ℕ) → colour_length (encodes cs) ≡ colour_length cs
colour_encodes [] = refl
colour_encodes (c ∷ cs) = elim (cases_lt c 128) [
  | inl low ↦ ap (λ x. colour_length (x ++ encodes cs)) (encode_ascii c low) ∙ second c cs
  | inr past ↦
      let first = high_first c (encodes cs) past in
      ap colour_length first.parts ∙ no_escape_front first.byte first.more (ne_eqb first.byte 0x1B (λ e. omega (arith, e, first.past)))
      ∙ sym (no_escape_front c cs (ne_eqb c 0x1B (λ e. omega (arith, e, past))))
] where
  second : (c : ℕ) (cs : List ℕ) → colour_length (c ∷ encodes cs) ≡ colour_length (c ∷ cs)
  second c [] = refl
  second c (d ∷ ds) = elim (cases_lt d 128) [
    | inl low ↦
        ap (λ x. colour_length (c ∷ (x ++ encodes ds))) (encode_ascii d low)
        ∙ ap (λ o. if (c == 0x1B) && (d == 0x5B) then option_map (λ n. n + 2) o else None) (parameters_encodes ds)
    | inr past ↦
        let first = high_first d (encodes ds) past in
        ap (λ bs. colour_length (c ∷ bs)) first.parts ∙ no_bracket c first.byte first.more (ne_eqb first.byte 0x5B (λ e. omega (arith, e, first.past)))
        ∙ sym (no_bracket c d ds (ne_eqb d 0x5B (λ e. omega (arith, e, past))))
  ]

-- the colour sequence in front of a text is as long in bytes as in characters
pub colour_bytes : (bs : List ℕ) → IsUtf8 bs → colour_length bs ≡ colour_length (chars bs)
colour_bytes bs u = ap colour_length (sym (encodes-chars bs u)) ∙ colour_encodes (chars bs)

-- a text whose first bytes are ESC [
pub begun : (bs : List ℕ) → 3 ≤ length bs → get_or bs 0 0 ≡ 0x1B → get_or bs 1 0 ≡ 0x5B → unwrap_or (colour_length bs) 0 ≡ found 2 (drop 2 bs)
begun [] some e f = absurd (omega (arith, some))
begun (c ∷ []) some e f = absurd (omega (arith, some))
begun (c ∷ d ∷ bs) some e f = rw (e, f) refl

pub begun_low : (bs : List ℕ) → 3 ≤ length bs → get_or bs 0 0 ≡ 0x1B → get_or bs 1 0 ≡ 0x5B → All (λ b. b < 128) (take 2 bs)
begun_low [] some e f = absurd (omega (arith, some))
begun_low (c ∷ []) some e f = absurd (omega (arith, some))
begun_low (c ∷ d ∷ bs) some e f = All-cons (λ b. b < 128) c (d ∷ []) (omega (arith, e)) (All-cons (λ b. b < 128) d [] (omega (arith, f)) (All-nil (λ b. b < 128)))

-- and one whose first bytes are others
pub unbegun : (bs : List ℕ) → (length bs < 3) ⊎ ((get_or bs 0 0 ≡ 0x1B → ⊥) ⊎ (get_or bs 1 0 ≡ 0x5B → ⊥)) → unwrap_or (colour_length bs) 0 ≡ 0
unbegun [] any = refl
unbegun (c ∷ []) any = refl
unbegun (c ∷ d ∷ []) any = cond_both ((c == 0x1B) && (d == 0x5B)) (option_map (λ n. n + 2) None) None (λ o. unwrap_or o 0 ≡ 0) (λ _. refl) (λ _. refl)
unbegun (c ∷ d ∷ e ∷ bs) (inl short) = absurd (omega (arith, short))
unbegun (c ∷ d ∷ e ∷ bs) (inr (inl other)) = rw (ne_eqb c 0x1B other) refl
unbegun (c ∷ d ∷ e ∷ bs) (inr (inr other)) = ap (λ o. unwrap_or o 0) (no_bracket c d (e ∷ bs) (ne_eqb d 0x5B other))

-- ---- what a sequence at the front hides

visible_after : (n : ℕ) (cs : List ℕ) → visible_from n cs ≡ visible_from 0 (drop n cs)
visible_after zero [] = refl
visible_after zero (c ∷ cs) = refl
visible_after (suc n) [] = refl
visible_after (suc n) (c ∷ cs) = visible_after n cs

pub some_sequence : (o : Option ℕ) (n : ℕ) → n ≡ unwrap_or o 0 → 0 < n → o ≡ Some n
some_sequence None n e some = absurd (omega (arith, e))
some_sequence (Some m) n e some = ap Some (sym e)

pub hidden : (n : ℕ) (cs : List ℕ) → colour_length cs ≡ Some n → 0 < n → visible cs ≡ visible (drop n cs)
unfolding visible
hidden n [] e some = absurd (cc e)
hidden zero (c ∷ cs) e some = absurd (omega arith)
hidden (suc n) (c ∷ cs) e some =
    let same : suc n - 1 ≡ n = omega arith in
    ap (λ o. if is_some o then visible_from (unwrap_or o 1 - 1) cs else c ∷ visible_from 0 cs) e ∙ ap (λ k. visible_from k cs) same ∙ visible_after n cs

pub parameter_small : (c : ℕ) → is_parameter c ≡ true → c < 128
parameter_small c e = grind (arith, nat_tests)

pub hidden_text : (text rest : List ℕ) (n : ℕ) → Scanned text n rest → n ≡ unwrap_or (colour_length (chars text)) 0 → 0 < n → visible (chars rest) ≡ visible (chars text)
hidden_text text rest n s e some =
    ap visible (sym (scanned_chars_rest text rest n s)) ∙ sym (hidden n (chars text) (some_sequence (colour_length (chars text)) n e some) some)

pub no_sequence : (cs : List ℕ) (n : ℕ) → n ≡ unwrap_or (colour_length cs) 0 → n ≡ 0 → colour_length cs ≡ None
no_sequence [] n e none = refl
no_sequence (c ∷ []) n e none = refl
no_sequence (c ∷ d ∷ cs) n e none = none_by ((c == 0x1B) && (d == 0x5B)) (parameters_length cs) (sym e ∙ none) where
  none_by : (b : Bool) (o : Option ℕ) → unwrap_or (if b then option_map (λ n. n + 2) o else None) 0 ≡ 0 → (if b then option_map (λ n. n + 2) o else None) ≡ None
  none_by true None z = refl
  none_by true (Some n) z = absurd (omega (arith, z))
  none_by false o z = refl

seen : (c : ℕ) (cs : List ℕ) → colour_length (c ∷ cs) ≡ None → visible (c ∷ cs) ≡ c ∷ visible cs
unfolding visible
seen c cs e = ap (λ o. if is_some o then visible_from (unwrap_or o 1 - 1) cs else c ∷ visible_from 0 cs) e

pub visible_none : visible [] ≡ []
unfolding visible
visible_none = refl

-- ---- printable ASCII at the front of a text

plain_unescaped : (c : ℕ) → IsPrintable c → c ≡ 0x1B → ⊥
plain_unescaped c plain e = omega (arith, plain.0, e)

unescaped_seen : (c : ℕ) (cs : List ℕ) → (c ≡ 0x1B → ⊥) → visible (c ∷ cs) ≡ c ∷ visible cs
unescaped_seen c cs other = seen c cs (no_escape_front c cs (ne_eqb c 0x1B other))

visible_plain : (run cs : List ℕ) → All IsPrintable run → visible (run ++ cs) ≡ run ++ visible cs
visible_plain [] cs plain = refl
visible_plain (c ∷ run) cs plain =
    unescaped_seen c (run ++ cs) (plain_unescaped c (All-head IsPrintable c run plain)) ∙ ap (λ x. c ∷ x) (visible_plain run cs (All-tail IsPrintable c run plain))

printable_ascii : (bs : List ℕ) → All IsPrintable bs → IsAscii bs
printable_ascii bs plain = IsAscii-from_all bs (All-weaker IsPrintable (λ b. b < 128) (λ b h. omega (arith, h.1)) bs plain)

pub passes_printable : (text : List ℕ) (count : ℕ) → IsUtf8 (drop count text) → count ≤ length text → All IsPrintable (take count text)
    → PassesRun 1 (visible (chars text)) count (visible (chars (drop count text)))
unfolding scanned_by
passes_printable text count u fits plain =
    let s = scanned_by text count fits (printable_ascii (take count text) plain) u in
    record {
      run = take count text;
      whole = ap visible (scanned_chars text (drop count text) count s) ∙ visible_plain (take count text) (chars (drop count text)) plain;
      many = s.many;
      takes = All-weaker IsPrintable (HasWidth 1) plain_width (take count text) plain;
    }

-- ---- a character that is repeated

-- once more
pub times_more : (n : ℕ) (unit rest : List ℕ) → times_then n unit (unit ++ rest) ≡ times_then (n + 1) unit rest
times_more zero unit rest = refl
times_more (suc n) unit rest =
    let same : suc (n + 1) ≡ suc n + 1 = omega arith in
    ap (λ x. unit ++ x) (times_more n unit rest) ∙ ap (λ k. times_then k unit rest) same

-- a number of times, and a number of times more
pub times_both : (n m : ℕ) (unit rest : List ℕ) → times_then n unit (times_then m unit rest) ≡ times_then (n + m) unit rest
times_both zero m unit rest = ap (λ k. times_then k unit rest) (let same : m ≡ zero + m = omega arith in same)
times_both (suc n) m unit rest =
    let same : suc (n + m) ≡ suc n + m = omega arith in
    ap (λ x. unit ++ x) (times_both n m unit rest) ∙ ap (λ k. times_then k unit rest) same

times_append : (n : ℕ) (unit a b : List ℕ) → times_then n unit a ++ b ≡ times_then n unit (a ++ b)
times_append zero unit a b = refl
times_append (suc n) unit a b = append_assoc unit (times_then n unit a) b ∙ ap (λ x. unit ++ x) (times_append n unit a b)

take_past : (m : ℕ) (xs ys : List ℕ) → take (length xs + m) (xs ++ ys) ≡ xs ++ take m ys
take_past m [] ys = ap (λ k. take k ys) (let same : 0 + m ≡ m = omega arith in same)
take_past m (x ∷ xs) ys = ap (λ k. take k (x ∷ (xs ++ ys))) (let same : suc (length xs) + m ≡ suc (length xs + m) = omega arith in same) ∙ ap (λ zs. x ∷ zs) (take_past m xs ys)

-- bytes that are those from three before them on repeat these three
periodic : (n : ℕ) (unit bytes : List ℕ) → length unit ≡ 3 → bytes ≡ take (3 * n) (unit ++ bytes) → bytes ≡ times_then n unit []
periodic zero unit bytes three e = e
periodic (suc n) unit bytes three e =
    let front = take (3 * n) bytes in
    let size : 3 * suc n ≡ length unit + 3 * n = omega arith in
    let step : bytes ≡ unit ++ front = e ∙ ap (λ k. take k (unit ++ bytes)) size ∙ take_past (3 * n) unit bytes in
    step ∙ ap (λ x. unit ++ x) (periodic n unit front three (ap (take (3 * n)) step))

-- three bytes and the 48 behind them, which are those from the three on
pub seventeen : (unit bytes rest : List ℕ) → length unit ≡ 3 → bytes ≡ unit ++ rest → 48 ≤ length rest → take 48 rest ≡ take 48 bytes → bytes ≡ times_then 17 unit (drop 48 rest)
seventeen unit bytes rest three e fits same =
    let front = take 48 rest in
    let back = drop 48 rest in
    let whole : front ++ back ≡ rest = take-append-drop 48 rest in
    let size : length front ≡ 48 = length-take-le 48 rest fits in
    let begins : front ≡ take 48 (unit ++ front) =
    same ∙ ap (take 48) (e ∙ ap (λ x. unit ++ x) (sym whole) ∙ sym (append_assoc unit front back))
    ∙ take-append-le 48 (unit ++ front) back (omega (arith, length-append unit front, size)) in
    let times : front ≡ times_then 16 unit [] = periodic 16 unit front three begins in
    e ∙ ap (λ x. unit ++ x) (sym whole ∙ ap (λ x. x ++ back) times ∙ times_append 16 unit [] back)

-- the bytes of a repeated character are that character, repeated
pub record RepeatsChar (c n : ℕ) (bs rest : List ℕ) : Type 0 where
  pub chars_are : chars bs ≡ replicate n c ++ chars rest
  pub utf8 : IsUtf8 rest

pub repeats_char : (n c : ℕ) (bs rest : List ℕ) → IsUtf8 bs → bs ≡ times_then n (encode c) rest → RepeatsChar c n bs rest
repeats_char zero c bs rest u e = record { chars_are = ap chars e; utf8 = subst IsUtf8 e u }
repeats_char (suc n) c bs rest u e =
    let more = repeats_char n c (times_then n (encode c) rest) rest (IsUtf8-past_char bs (times_then n (encode c) rest) c u e) refl in
    record { chars_are = chars_past_char bs (times_then n (encode c) rest) c u e ∙ ap (λ x. c ∷ x) more.chars_are; utf8 = more.utf8 }

visible_times : (n c : ℕ) (cs : List ℕ) → (0 < n → c ≡ 0x1B → ⊥) → visible (replicate n c ++ cs) ≡ replicate n c ++ visible cs
visible_times zero c cs other = refl
visible_times (suc n) c cs other = unescaped_seen c (replicate n c ++ cs) (other (omega arith)) ∙ ap (λ x. c ∷ x) (visible_times n c cs (λ _. other (omega arith)))

-- a character that begins no colour sequence, and as often as it comes again
pub passes_repeated : (text rest : List ℕ) (c n : ℕ) → chars text ≡ c ∷ chars rest → colour_length (chars text) ≡ None → IsUtf8 rest
    → rest ≡ times_then n (encode c) (drop (3 * n) rest) → (0 < n → c ≡ 0x1B → ⊥)
    → PassesRun (width_of c) (visible (chars text)) (1 + n) (visible (chars (drop (3 * n) rest)))
passes_repeated text rest c n first front u e other =
    let after = drop (3 * n) rest in
    let r = repeats_char n c rest after u e in
    record {
      run = c ∷ replicate n c;
      whole = ap visible first ∙ seen c (chars rest) (ap colour_length (sym first) ∙ front) ∙ ap (λ x. c ∷ x) (ap visible r.chars_are ∙ visible_times n c (chars after) other);
      many = omega (arith, length-replicate n c);
      takes = All-cons (HasWidth (width_of c)) c (replicate n c) refl (All-replicate (HasWidth (width_of c)) n c refl);
    }
