-- Texts with their tabs expanded, part by part; none has a tab, and one without tabs stays.
use Rattle.std.proofs.Common.{◌≡◌, ℕ, zero, suc, ◌<◌, Bool, true, false, ◌||◌, List, [], ◌∷◌, ◌++◌, length, replicate, refl, sym, ◌∙◌, ap, arith, append_assoc, eqb, if◌then◌else◌, inl, inr}
use Rattle.std.specs.Prelude.{flat_map, ◌==◌}
use Rattle.std.specs.List.{slice_split, onto_first}
use Rattle.std.proofs.lemmas.List.Splits.{length-slice_split}
use Rattle.std.proofs.lemmas.Bool.{cases_Bool}
use Rattle.std.specs.Result.{OnErr}
use Rattle.std.proofs.Common.{Result, Ok, Err}
use Rattle.indicatif_bar.specs.Tabs.{expanded, is_some_text, has_tab, TabsAreGone, OthersStay}

-- parts with a number of spaces between them
abbrev pub joined : ℕ → List (List ℕ) → List ℕ
joined w [] = []
joined w (part ∷ parts) = part ++ flat_map (λ p. replicate w 0x20 ++ p) parts

joined_some : (w : ℕ) (parts : List (List ℕ)) → 0 < length parts → flat_map (λ p. replicate w 0x20 ++ p) parts ≡ replicate w 0x20 ++ joined w parts
joined_some w [] h = absurd (omega arith)
joined_some w (part ∷ parts) h = append_assoc (replicate w 0x20) part (flat_map (λ p. replicate w 0x20 ++ p) parts)

joined-onto : (w x : ℕ) (parts : List (List ℕ)) → 0 < length parts → joined w (onto_first x parts) ≡ x ∷ joined w parts
joined-onto w x [] h = absurd (omega arith)
joined-onto w x (part ∷ parts) h = refl

some_parts : (text : List ℕ) → 0 < length (slice_split (λ b. eqb b 0x09) text)
some_parts text = omega (arith, length-slice_split (λ b. eqb b 0x09) text)

-- the parts between tabs, joined
pub joined-split : (w : ℕ) (text : List ℕ) → joined w (slice_split (λ b. eqb b 0x09) text) ≡ expanded w text
joined-split w [] = refl
joined-split w (b ∷ text) = elim (cases_Bool (eqb b 0x09)) [
  | inl tab ↦ rw tab (joined_some w (slice_split (λ b. eqb b 0x09) text) (some_parts text) ∙ ap (λ x. replicate w 0x20 ++ x) (joined-split w text))
  | inr other ↦ rw other (joined-onto w b (slice_split (λ b. eqb b 0x09) text) (some_parts text) ∙ ap (λ x. b ∷ x) (joined-split w text))
]

-- ---- no tab is left, and other texts stay

none-more : (b : Bool) (xs zs : List ℕ) → (b || has_tab xs) ≡ false → (has_tab xs ≡ false → has_tab zs ≡ false) → (b || has_tab zs) ≡ false
none-more true xs zs e rest = absurd (cc e)
none-more false xs zs e rest = rest e

none-append : (xs ys : List ℕ) → has_tab xs ≡ false → has_tab ys ≡ false → has_tab (xs ++ ys) ≡ false
none-append [] ys e d = d
none-append (x ∷ xs) ys e d = none-more (x == 0x09) xs (xs ++ ys) e (λ h. none-append xs ys h d)

none-spaces : (n : ℕ) → has_tab (replicate n 0x20) ≡ false
none-spaces zero = refl
none-spaces (suc n) = none-spaces n

none-one : (b : Bool) (tab c : ℕ) → (c == 0x09) ≡ b → has_tab (if b then replicate tab 0x20 else c ∷ []) ≡ false
none-one true tab c e = none-spaces tab
none-one false tab c e = rw e refl

pub tabs_are_gone : TabsAreGone
tabs_are_gone tab [] = refl
tabs_are_gone tab (c ∷ cs) =
    none-append (if c == 0x09 then replicate tab 0x20 else c ∷ []) (expanded tab cs) (none-one (c == 0x09) tab c refl) (tabs_are_gone tab cs)

stays : (b : Bool) (tab c : ℕ) (cs : List ℕ) → (b || has_tab cs) ≡ false → (has_tab cs ≡ false → expanded tab cs ≡ cs)
    → (if b then replicate tab 0x20 else c ∷ []) ++ expanded tab cs ≡ c ∷ cs
stays true tab c cs e rest = absurd (cc e)
stays false tab c cs e rest = ap (λ x. c ∷ x) (rest e)

pub others_stay : OthersStay
others_stay tab [] e = refl
others_stay tab (c ∷ cs) e = stays (c == 0x09) tab c cs e (others_stay tab cs)

-- ---- texts that aren't empty

pub some_text : (text : List ℕ) → 0 < length text → is_some_text text ≡ true
some_text [] h = absurd (omega arith)
some_text (b ∷ text) h = refl

-- a text with a tab has a character
pub tab_is_text : (text : List ℕ) → has_tab text ≡ true → is_some_text text ≡ true
tab_is_text [] h = absurd (cc h)
tab_is_text (b ∷ text) h = refl

-- a fact holds where an error comes
pub on_err : {T E P : Type 0} (r : Result T E) → P → OnErr r P
on_err (Ok x) p = tt
on_err (Err e) p = p

-- ---- what a text shows

-- a text that is kept beside its expanded form shows that form
pub shows_expanded : (has : Bool) (tab : ℕ) (text with_spaces : List ℕ) → has ≡ has_tab text → (has ≡ true → with_spaces ≡ expanded tab text)
    → (has ≡ has_tab text) × ((if has then with_spaces else text) ≡ expanded tab text)
shows_expanded true tab text with_spaces e h = (e, h refl)
shows_expanded false tab text with_spaces e h = (e, sym (others_stay tab text (sym e)))
