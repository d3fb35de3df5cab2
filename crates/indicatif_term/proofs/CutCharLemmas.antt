-- The characters of a line that is cut: where a row of them ends, which of them are spaces at its end, and which go into a line's text.
use Rattle.std.proofs.Common.{inl, inr, ◌≡◌, ℕ, suc, ◌+◌, ◌<◌, ◌≤◌, Bool, true, false, cond, List, [], ◌∷◌, ◌++◌, filter, length, take, drop, get_or, refl, sym, ◌∙◌, ap, arith, append_assoc, append-nil, length-append, take-append-drop, take_at, drop_at}
use Rattle.std.specs.Prelude.{◌==◌, ◌&&◌, nat_le, flat_map, if◌then◌else◌}
use Rattle.std.specs.List.{list_all}
use Rattle.std.proofs.lemmas.Bool.{cases_Bool, cond_both, and_parts, eqb-true, eqb-false, le-leb, lt-leb, leb-true}
use Rattle.std.proofs.lemmas.List.{take_more}
use Rattle.std.proofs.lemmas.List.Concat.{flat_map-append}
use Rattle.std.proofs.lemmas.List.Sums.{sum_by-cons}
use Rattle.std.proofs.Math.Seq.{drop-cons}
use Rattle.unicode_width.specs.Width.{char_width}
use Rattle.indicatif_text.specs.Columns.{Glyph, width_of, glyph_width, glyphs_of, columns_in}
use Rattle.indicatif_term.specs.Pictures.{is_empty}
use Rattle.indicatif_term.specs.Resizes.{has_place}
use Rattle.indicatif_term.specs.Inside.Recutting.{glyph_text, guarded_char, guarded, glyphs_text, is_space, without_spaces, fitting_count, fits_alone, keeps, IsFitting}
use Rattle.indicatif_term.proofs.WrittenLineLemmas.{has_no_width, joiners_before, joiners_before-cons}

-- ---- glyphs, from the front

abbrev glyph : ℕ → List ℕ → Glyph
glyph c cs = record { base = c; joiners = joiners_before cs }

joiner_first : (c : ℕ) (cs : List ℕ) → has_no_width c ≡ true → glyphs_of (c ∷ cs) ≡ glyphs_of cs
joiner_first c cs e = rw e refl

base_first : (c : ℕ) (cs : List ℕ) → has_no_width c ≡ false → glyphs_of (c ∷ cs) ≡ glyph c cs ∷ glyphs_of cs
base_first c cs e = rw e refl

-- behind some characters comes one that takes columns
module _ (c : ℕ) (cs : List ℕ) (e : has_no_width c ≡ false) where
  joiners_end : (xs : List ℕ) → joiners_before (xs ++ c ∷ cs) ≡ joiners_before xs
  joiners_end [] = joiners_before-cons c cs ∙ ap (λ b. cond b (c ∷ joiners_before cs) []) e
  joiners_end (x ∷ xs) =
      joiners_before-cons x (xs ++ c ∷ cs) ∙ ap (λ ys. cond (has_no_width x) (x ∷ ys) []) (joiners_end xs) ∙ sym (joiners_before-cons x xs)

  glyphs_end : (xs : List ℕ) → glyphs_of (xs ++ c ∷ cs) ≡ glyphs_of xs ++ glyphs_of (c ∷ cs)
  glyphs_end [] = refl
  glyphs_end (x ∷ xs) = elim (cases_Bool (has_no_width x)) [
    | inl none ↦ joiner_first x (xs ++ c ∷ cs) none ∙ glyphs_end xs ∙ ap (λ gs. gs ++ glyphs_of (c ∷ cs)) (sym (joiner_first x xs none))
    | inr some ↦
        base_first x (xs ++ c ∷ cs) some ∙ ap (λ ms. let g : Glyph = record { base = x; joiners = ms } in g ∷ glyphs_of (xs ++ c ∷ cs)) (joiners_end xs)
        ∙ ap (λ gs. glyph x xs ∷ gs) (glyphs_end xs) ∙ ap (λ gs. gs ++ glyphs_of (c ∷ cs)) (sym (base_first x xs some))
  ]

-- how many glyphs they have
one_base : (xs : List ℕ) (c : ℕ) → has_no_width c ≡ false → length (glyphs_of (xs ++ c ∷ [])) ≡ length (glyphs_of xs) + 1
one_base xs c e = ap length (glyphs_end c [] e xs ∙ ap (λ gs. glyphs_of xs ++ gs) (base_first c [] e)) ∙ length-append (glyphs_of xs) (glyph c [] ∷ [])

one_joiner : (xs : List ℕ) (c : ℕ) → has_no_width c ≡ true → length (glyphs_of (xs ++ c ∷ [])) ≡ length (glyphs_of xs)
one_joiner [] c e = ap length (joiner_first c [] e)
one_joiner (x ∷ xs) c e = elim (cases_Bool (has_no_width x)) [
  | inl none ↦ ap length (joiner_first x (xs ++ c ∷ []) none) ∙ one_joiner xs c e ∙ ap length (sym (joiner_first x xs none))
  | inr some ↦ ap length (base_first x (xs ++ c ∷ []) some) ∙ ap suc (one_joiner xs c e) ∙ ap length (sym (base_first x xs some))
]

-- ---- where a row ends

alone_some : (w c : ℕ) → fits_alone w c ≡ true → (has_no_width c ≡ false) × (width_of c ≤ w)
alone_some w c e =
    let p = and_parts (nat_le 1 (width_of c)) (nat_le (width_of c) w) e in
    let some : 1 ≤ width_of c = leb-true 1 (width_of c) p.0 in
    (elim (cases_Bool (has_no_width c)) [ inl none ↦ absurd (let z = eqb-true (width_of c) 0 none in omega arith) | inr other ↦ other ], leb-true (width_of c) w p.1)

-- how many glyphs go into a row: those so far, and those of the characters to come
abbrev pub counted : ℕ → ℕ → List ℕ → ℕ → ℕ
counted w taken cs i = length (glyphs_of (take i cs)) + fitting_count w taken (glyphs_of (drop i cs))

module _ (w taken : ℕ) (cs : List ℕ) (i c : ℕ) (h : i < length cs) (at : get_or cs i c ≡ c) where
  front_next : take (i + 1) cs ≡ take i cs ++ c ∷ []
  front_next = take_more cs i c h ∙ ap (λ d. take i cs ++ d ∷ []) at

  rest_next : drop i cs ≡ c ∷ drop (i + 1) cs
  rest_next = drop-cons cs i c h ∙ ap (λ d. d ∷ drop (suc i) cs) at ∙ ap (λ k. c ∷ drop k cs) (let k : suc i ≡ i + 1 = omega arith in k)

  pub passes : fits_alone w c ≡ false → counted w taken cs i ≡ counted w taken cs (i + 1)
  passes e = elim (cases_Bool (has_no_width c)) [
    | inl none ↦
        let n : length (glyphs_of (take (i + 1) cs)) ≡ length (glyphs_of (take i cs)) = ap (λ xs. length (glyphs_of xs)) front_next ∙ one_joiner (take i cs) c none in
        let r : glyphs_of (drop i cs) ≡ glyphs_of (drop (i + 1) cs) = ap glyphs_of rest_next ∙ joiner_first c (drop (i + 1) cs) none in
        omega (arith, n, ap (fitting_count w taken) r)
    | inr some ↦
        let n : length (glyphs_of (take (i + 1) cs)) ≡ length (glyphs_of (take i cs)) + 1 = ap (λ xs. length (glyphs_of xs)) front_next ∙ one_base (take i cs) c some in
        let r : glyphs_of (drop i cs) ≡ glyph c (drop (i + 1) cs) ∷ glyphs_of (drop (i + 1) cs) = ap glyphs_of rest_next ∙ base_first c (drop (i + 1) cs) some in
        let k : fitting_count w taken (glyph c (drop (i + 1) cs) ∷ glyphs_of (drop (i + 1) cs)) ≡ suc (fitting_count w taken (glyphs_of (drop (i + 1) cs))) = rw e refl in
        omega (arith, n, ap (fitting_count w taken) r, k)
  ]

  module _ (e : fits_alone w c ≡ true) where
    here : glyphs_of (drop i cs) ≡ glyph c (drop (i + 1) cs) ∷ glyphs_of (drop (i + 1) cs)
    here = ap glyphs_of rest_next ∙ base_first c (drop (i + 1) cs) (alone_some w c e).0

    pub goes_in : taken + width_of c ≤ w → counted w taken cs i ≡ counted w (taken + width_of c) cs (i + 1)
    goes_in room =
        let n : length (glyphs_of (take (i + 1) cs)) ≡ length (glyphs_of (take i cs)) + 1 =
        ap (λ xs. length (glyphs_of xs)) front_next ∙ one_base (take i cs) c (alone_some w c e).0 in
        let test : nat_le (taken + width_of c) w ≡ true = le-leb (taken + width_of c) w room in
        let k : fitting_count w taken (glyph c (drop (i + 1) cs) ∷ glyphs_of (drop (i + 1) cs)) ≡ suc (fitting_count w (taken + width_of c) (glyphs_of (drop (i + 1) cs))) = rw (e, test) refl in
        omega (arith, n, ap (fitting_count w taken) here, k)

    -- the row ends before this one
    pub ends_here : (i ≡ 0 → taken ≡ 0) → w < taken + width_of c → fitting_count w 0 (glyphs_of cs) ≡ counted w taken cs i → IsFitting w cs i
    ends_here first full all =
        let gs = glyphs_of cs in
        let front = glyphs_of (take i cs) in
        let test : nat_le (taken + width_of c) w ≡ false = lt-leb (taken + width_of c) w full in
        let none : fitting_count w taken (glyph c (drop (i + 1) cs) ∷ glyphs_of (drop (i + 1) cs)) ≡ 0 = rw (e, test) refl in
        let n : fitting_count w 0 gs ≡ length front = omega (arith, all, ap (fitting_count w taken) here, none) in
        let parts : gs ≡ front ++ glyphs_of (drop i cs) =
        ap glyphs_of (sym (take-append-drop i cs) ∙ ap (λ xs. take i cs ++ xs) rest_next) ∙ glyphs_end c (drop (i + 1) cs) (alone_some w c e).0 (take i cs)
        ∙ ap (λ xs. front ++ glyphs_of xs) (sym rest_next) in
        record {
          within = omega arith;
          some = λ s. elim (cases_Bool (i == 0)) [
            | inl z ↦ absurd (let zero_at : i ≡ 0 = eqb-true i 0 z in let t : taken ≡ 0 = first zero_at in omega (arith, (alone_some w c e).1))
            | inr z ↦ let some_at : i ≡ 0 → ⊥ = eqb-false i 0 z in omega arith
          ];
          front = sym (ap (λ k. take k gs) n ∙ ap (take (length front)) parts ∙ take_at front (glyphs_of (drop i cs)) (length front) refl);
          rest = sym (ap (λ k. drop k gs) n ∙ ap (drop (length front)) parts ∙ drop_at front (glyphs_of (drop i cs)) (length front) refl);
          more = λ s. omega (arith, ap length here);
        }

pub all_fit : (w taken : ℕ) (cs : List ℕ) → fitting_count w 0 (glyphs_of cs) ≡ counted w taken cs (length cs) → IsFitting w cs (length cs)
all_fit w taken cs all =
    let gs = glyphs_of cs in
    let whole : take (length cs) cs ≡ cs = ap (take (length cs)) (sym (append-nil cs)) ∙ take_at cs [] (length cs) refl in
    let none : drop (length cs) cs ≡ [] = ap (drop (length cs)) (sym (append-nil cs)) ∙ drop_at cs [] (length cs) refl in
    let n : fitting_count w 0 gs ≡ length gs = omega (arith, all, ap (λ xs. length (glyphs_of xs)) whole, ap (λ xs. fitting_count w taken (glyphs_of xs)) none) in
    record {
      within = omega arith;
      some = λ s. s;
      front = ap glyphs_of whole ∙ sym (ap (λ k. take k gs) n ∙ ap (take (length gs)) (sym (append-nil gs)) ∙ take_at gs [] (length gs) refl);
      rest = ap glyphs_of none ∙ sym (ap (λ k. drop k gs) n ∙ ap (drop (length gs)) (sym (append-nil gs)) ∙ drop_at gs [] (length gs) refl);
      more = λ s. absurd (omega arith);
    }

-- ---- spaces at the end

space_some : has_no_width 0x20 ≡ false
unfolding char_width
space_some = refl

none_left : (gs : List Glyph) → list_all is_space gs ≡ true → without_spaces gs ≡ []
none_left [] e = refl
none_left (g ∷ gs) e = rw e refl

all_more : (gs : List Glyph) → list_all is_space (gs ++ glyph 0x20 [] ∷ []) ≡ list_all is_space gs
all_more [] = refl
all_more (g ∷ gs) = ap (λ b. is_space g && b) (all_more gs)

space_left : (gs : List Glyph) → without_spaces (gs ++ glyph 0x20 [] ∷ []) ≡ without_spaces gs
space_left [] = refl
space_left (g ∷ gs) =
    ap (λ b. if b then [] else g ∷ without_spaces (gs ++ glyph 0x20 [] ∷ [])) (all_more (g ∷ gs)) ∙ ap (λ ys. if list_all is_space (g ∷ gs) then [] else g ∷ ys) (space_left gs)

pub one_space : (xs : List ℕ) → without_spaces (glyphs_of (xs ++ 0x20 ∷ [])) ≡ without_spaces (glyphs_of xs)
one_space xs = ap without_spaces (glyphs_end 0x20 [] space_some xs ∙ ap (λ gs. glyphs_of xs ++ gs) (base_first 0x20 [] space_some)) ∙ space_left (glyphs_of xs)

and-none : (b : Bool) → (b && false) ≡ false
and-none true = refl
and-none false = refl

-- a glyph on glyphs of which the last is no space, or that is none itself
on_top : (g : Glyph) (gs : List Glyph) → without_spaces gs ≡ gs → (gs ≡ [] → is_space g ≡ false) → without_spaces (g ∷ gs) ≡ g ∷ gs
on_top g [] e f = rw (f refl) refl
on_top g (h ∷ gs) e f = elim (cases_Bool (list_all is_space (h ∷ gs))) [
  | inl all ↦ absurd (let none = none_left (h ∷ gs) all in cc (none, e))
  | inr some ↦ ap (λ b. if b then [] else g ∷ without_spaces (h ∷ gs)) (ap (λ b. is_space g && b) some ∙ and-none (is_space g)) ∙ ap (λ ys. g ∷ ys) e
]

some_joiner : (y : ℕ) (ys : List ℕ) → glyphs_of (y ∷ ys) ≡ [] → is_empty (joiners_before (y ∷ ys)) ≡ false
some_joiner y ys e = elim (cases_Bool (has_no_width y)) [
  | inl none ↦ ap is_empty (joiners_before-cons y ys ∙ ap (λ b. cond b (y ∷ joiners_before ys) []) none)
  | inr some ↦ absurd (let g = base_first y ys some in cc (g, e))
]

joined_some : (xs : List ℕ) (c : ℕ) → glyphs_of (xs ++ c ∷ []) ≡ [] → is_empty (joiners_before (xs ++ c ∷ [])) ≡ false
joined_some [] c e = some_joiner c [] e
joined_some (x ∷ xs) c e = some_joiner x (xs ++ c ∷ []) e

pub one_other : (xs : List ℕ) (c : ℕ) → (c == 0x20) ≡ false → without_spaces (glyphs_of (xs ++ c ∷ [])) ≡ glyphs_of (xs ++ c ∷ [])
one_other [] c e = elim (cases_Bool (has_no_width c)) [
  | inl none ↦ ap without_spaces (joiner_first c [] none) ∙ sym (joiner_first c [] none)
  | inr some ↦ ap without_spaces (base_first c [] some) ∙ on_top (glyph c []) [] refl (λ z. rw e refl) ∙ sym (base_first c [] some)
]
one_other (x ∷ xs) c e =
    let ys = xs ++ c ∷ [] in
    elim (cases_Bool (has_no_width x)) [
      | inl none ↦ ap without_spaces (joiner_first x ys none) ∙ one_other xs c e ∙ sym (joiner_first x ys none)
      | inr some ↦
          ap without_spaces (base_first x ys some)
          ∙ on_top (glyph x ys) (glyphs_of ys) (one_other xs c e) (λ z. ap (λ b. (x == 0x20) && b) (joined_some xs c z) ∙ and-none (x == 0x20))
          ∙ sym (base_first x ys some)
    ]

-- ---- the text of a line

-- what is appended of characters; whether the one before them was
abbrev pub kept_text : ℕ → Bool → List ℕ → List ℕ
kept_text w before [] = []
kept_text w before (c ∷ cs) = (if keeps w before c then guarded_char c else []) ++ kept_text w (keeps w before c) cs

abbrev pub placed : ℕ → List ℕ → List Glyph
placed w cs = filter (has_place w) (glyphs_of cs)

module _ (w c : ℕ) (cs : List ℕ) where
  keeps_joiner : (b : Bool) → has_no_width c ≡ true → keeps w b c ≡ b
  keeps_joiner b e = ap (λ t. if t then b else fits_alone w c) e

  keeps_base : (b : Bool) → has_no_width c ≡ false → keeps w b c ≡ fits_alone w c
  keeps_base b e = ap (λ t. if t then b else fits_alone w c) e

  kept_by : (b k : Bool) → keeps w b c ≡ k → kept_text w b (c ∷ cs) ≡ (if k then guarded_char c else []) ++ kept_text w k cs
  kept_by b k e = ap (λ t. (if t then guarded_char c else []) ++ kept_text w t cs) e

  placed_joiner : has_no_width c ≡ true → placed w (c ∷ cs) ≡ placed w cs
  placed_joiner e = ap (filter (has_place w)) (joiner_first c cs e)

  placed_base : has_no_width c ≡ false → fits_alone w c ≡ true → placed w (c ∷ cs) ≡ glyph c cs ∷ placed w cs
  placed_base e f = ap (filter (has_place w)) (base_first c cs e) ∙ rw f refl

  placed_none : has_no_width c ≡ false → fits_alone w c ≡ false → placed w (c ∷ cs) ≡ placed w cs
  placed_none e f = ap (filter (has_place w)) (base_first c cs e) ∙ rw f refl

  -- one more of them
  columns_next : (b : Bool) → columns_in (placed w (c ∷ cs)) ≡ (if keeps w b c then width_of c else 0) + columns_in (placed w cs)
  columns_next b = elim (cases_Bool (has_no_width c)) [
    | inl none ↦
        let z : (if keeps w b c then width_of c else 0) ≡ 0 = cond_both (keeps w b c) (width_of c) 0 (λ n. n ≡ 0) (λ e. eqb-true (width_of c) 0 none) (λ e. refl) in
        omega (arith, z, ap columns_in (placed_joiner none))
    | inr some ↦ elim (cases_Bool (fits_alone w c)) [
      | inl fits ↦
          let k : (if keeps w b c then width_of c else 0) ≡ width_of c = ap (λ t. if t then width_of c else 0) (keeps_base b some ∙ fits) in
          omega (arith, k, ap columns_in (placed_base some fits), sum_by-cons glyph_width (glyph c cs) (placed w cs))
      | inr wide ↦
          let k : (if keeps w b c then width_of c else 0) ≡ 0 = ap (λ t. if t then width_of c else 0) (keeps_base b some ∙ wide) in
          omega (arith, k, ap columns_in (placed_none some wide))
    ]
  ]

kept_both : (w : ℕ) (cs : List ℕ) → (kept_text w false cs ≡ glyphs_text (placed w cs)) × (kept_text w true cs ≡ guarded (joiners_before cs) ++ glyphs_text (placed w cs))
kept_both w [] = (refl, refl)
kept_both w (c ∷ cs) =
    let r = kept_both w cs in
    let ms = joiners_before cs in
    let p = glyphs_text (placed w cs) in
    elim (cases_Bool (has_no_width c)) [
      | inl none ↦
          let same : p ≡ glyphs_text (placed w (c ∷ cs)) = ap glyphs_text (sym (placed_joiner w c cs none)) in
          let joiners : c ∷ ms ≡ joiners_before (c ∷ cs) = sym (joiners_before-cons c cs ∙ ap (λ b. cond b (c ∷ ms) []) none) in (
            kept_by w c cs false false (keeps_joiner w c cs false none) ∙ r.0 ∙ same,
            kept_by w c cs true true (keeps_joiner w c cs true none) ∙ ap (λ x. guarded_char c ++ x) r.1 ∙ sym (append_assoc (guarded_char c) (guarded ms) p)
                ∙ ap (λ xs. guarded xs ++ p) joiners ∙ ap (λ x. guarded (joiners_before (c ∷ cs)) ++ x) same,
          )
      | inr some ↦
          let q = glyphs_text (placed w (c ∷ cs)) in
          let none_joined : q ≡ guarded (joiners_before (c ∷ cs)) ++ q = ap (λ xs. guarded xs ++ q) (sym (joiners_before-cons c cs ∙ ap (λ b. cond b (c ∷ ms) []) some)) in
          let all : (b : Bool) → kept_text w b (c ∷ cs) ≡ q = λ b. elim (cases_Bool (fits_alone w c)) [
            | inl fits ↦
                kept_by w c cs b true (keeps_base w c cs b some ∙ fits) ∙ ap (λ x. guarded_char c ++ x) r.1 ∙ sym (append_assoc (guarded_char c) (guarded ms) p)
                ∙ sym (flat_map-append guarded_char (c ∷ ms) (flat_map glyph_text (placed w cs))) ∙ ap glyphs_text (sym (placed_base w c cs some fits))
            | inr wide ↦ kept_by w c cs b false (keeps_base w c cs b some ∙ wide) ∙ r.0 ∙ ap glyphs_text (sym (placed_none w c cs some wide))
          ] in
          (all false, all true ∙ none_joined)
    ]

pub all_kept : (w : ℕ) (cs : List ℕ) → kept_text w false cs ≡ glyphs_text (placed w cs)
all_kept w cs = (kept_both w cs).0

-- one more character of a list
module _ (w : ℕ) (cs : List ℕ) (i c : ℕ) (h : i < length cs) (at : get_or cs i c ≡ c) (before k : Bool) (e : k ≡ keeps w before c) where
  pub kept_next : kept_text w before (drop i cs) ≡ (if k then guarded_char c else []) ++ kept_text w k (drop (i + 1) cs)
  kept_next = ap (kept_text w before) (rest_next w 0 cs i c h at) ∙ kept_by w c (drop (i + 1) cs) before k (sym e)

  pub columns_left : columns_in (placed w (drop i cs)) ≡ (if k then width_of c else 0) + columns_in (placed w (drop (i + 1) cs))
  columns_left =
      ap (λ xs. columns_in (placed w xs)) (rest_next w 0 cs i c h at) ∙ columns_next w c (drop (i + 1) cs) before
      ∙ ap (λ t. (if t then width_of c else 0) + columns_in (placed w (drop (i + 1) cs))) (sym e)
