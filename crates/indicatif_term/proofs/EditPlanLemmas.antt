-- Edits that are planned lead from the one line to the other, in its colours.
use Rattle.std.proofs.Common.{inl, inr, ◌≡◌, ℕ, zero, suc, ◌-◌, ◌<◌, ◌≤◌, Bool, true, ◌&&◌, not, List, [], ◌∷◌, ◌++◌, length, map, replicate, refl, sym, ◌∙◌, ap, subst, arith, append-nil}
use Rattle.std.specs.Prelude.{◌==◌}
use Rattle.std.specs.List.{AllByRecursion}
use Rattle.std.specs.Str.{bytes_eq}
use Rattle.std.proofs.lemmas.Bool.{cases_Bool, cond_both, and_parts, eqb-true}
use Rattle.std.proofs.lemmas.List.{length-map}
use Rattle.std.proofs.lemmas.Slice.Eq.{bytes_eq-Decides}
use Rattle.unicode_width.specs.Width.{char_width}
use Rattle.indicatif_text.specs.Columns.{visible}
use Rattle.indicatif_term.specs.Inside.Inks.{Painted, in_colours, Ink, NONE, colours_of, same_ink, Inked, in_ink, is_alike, as_painted, characters, padded, AreColours}
use Rattle.indicatif_term.specs.Inside.RowEdits.{Edit, Write, IsNarrowChar, IsWritable, edit_columns, edit_gap, padded_chars, Lead, Tails, Turns, closed, opened, recoloured, plan, repainted, edit_colours}
use Rattle.indicatif_term.proofs.InkLemmas.{CanBeOpened, none_opens, upon, padded_length, padded_characters}

is_space : IsNarrowChar 0x20
unfolding char_width visible
is_space = record { narrow = refl; scalar = refl; seen = refl }

abbrev leaves : Bool → Inked → Inked → List Inked → Bool
leaves ends o n ns = is_alike o n && not (ends && (length ns == 0))

-- ---- edits behind a change of colours

columns_closed : (ink : List ℕ) (es : List Edit) → edit_columns (closed ink es) ≡ edit_columns es
columns_closed [] es = refl
columns_closed (c ∷ cs) es = refl

columns_opened : (ink : List ℕ) (es : List Edit) → edit_columns (opened ink es) ≡ edit_columns es
columns_opened [] es = refl
columns_opened (c ∷ cs) es = refl

columns_recoloured : (ink to : Ink) (es : List Edit) → edit_columns (recoloured ink to es) ≡ edit_columns es
columns_recoloured ink to es = cond_both (same_ink ink to) es (closed (colours_of ink) (opened to.base (opened to.group es))) (λ x. edit_columns x ≡ edit_columns es)
    (λ e. refl) (λ e. columns_closed (colours_of ink) (opened to.base (opened to.group es)) ∙ columns_opened to.base (opened to.group es) ∙ columns_opened to.group es)

lead_closed : (ink : List ℕ) (es : List Edit) (os ns : List ℕ) → Lead es os ns → Lead (closed ink es) os ns
lead_closed [] es os ns l = l
lead_closed (c ∷ cs) es os ns l = l

lead_opened : (ink : List ℕ) (es : List Edit) (os ns : List ℕ) → Lead es os ns → Lead (opened ink es) os ns
lead_opened [] es os ns l = l
lead_opened (c ∷ cs) es os ns l = l

lead_recoloured : (ink to : Ink) (es : List Edit) (os ns : List ℕ) → Lead es os ns → Lead (recoloured ink to es) os ns
lead_recoloured ink to es os ns l = cond_both (same_ink ink to) es (closed (colours_of ink) (opened to.base (opened to.group es))) (λ x. Lead x os ns)
    (λ e. l)
    (λ e. lead_closed (colours_of ink) (opened to.base (opened to.group es)) os ns (lead_opened to.base (opened to.group es) os ns (lead_opened to.group es os ns l)))

abbrev AreWritable : List Edit → Type 0
AreWritable es = AllByRecursion IsWritable es

writable_closed : (ink : List ℕ) (es : List Edit) → AreWritable es → AreWritable (closed ink es)
writable_closed [] es all = all
writable_closed (c ∷ cs) es all = (tt, all)

writable_opened : (ink : List ℕ) (es : List Edit) → AreColours ink → AreWritable es → AreWritable (opened ink es)
writable_opened [] es colours all = all
writable_opened (c ∷ cs) es colours all = (colours, all)

writable_recoloured : (ink to : Ink) (es : List Edit) → CanBeOpened to → AreWritable es → AreWritable (recoloured ink to es)
writable_recoloured ink to es opens all = cond_both (same_ink ink to) es (closed (colours_of ink) (opened to.base (opened to.group es))) AreWritable
    (λ e. all)
    (λ e. writable_closed (colours_of ink) (opened to.base (opened to.group es)) (writable_opened to.base (opened to.group es) opens.base (writable_opened to.group es opens.group all)))

gap_closed : (gap : ℕ) (ink : List ℕ) (es : List Edit) → edit_gap gap (closed ink es) ≡ edit_gap gap es
gap_closed gap [] es = refl
gap_closed gap (c ∷ cs) es = refl

gap_opened : (gap : ℕ) (ink : List ℕ) (es : List Edit) → edit_gap gap (opened ink es) ≡ edit_gap gap es
gap_opened gap [] es = refl
gap_opened gap (c ∷ cs) es = refl

gap_recoloured : (gap : ℕ) (ink to : Ink) (es : List Edit) → edit_gap gap (recoloured ink to es) ≡ edit_gap gap es
gap_recoloured gap ink to es = cond_both (same_ink ink to) es (closed (colours_of ink) (opened to.base (opened to.group es))) (λ x. edit_gap gap x ≡ edit_gap gap es)
    (λ e. refl) (λ e. gap_closed gap (colours_of ink) (opened to.base (opened to.group es)) ∙ gap_opened gap to.base (opened to.group es) ∙ gap_opened gap to.group es)

-- ---- edits that are planned

pub plan_columns : (ends : Bool) (ink : Ink) (os ns : List Inked) → length os ≡ length ns → edit_columns (plan ends ink os ns) ≡ length ns
plan_columns ends ink [] [] e = columns_closed (colours_of ink) []
plan_columns ends ink [] (n ∷ ns) e = absurd (omega (arith, e))
plan_columns ends ink (o ∷ os) [] e = absurd (omega (arith, e))
plan_columns ends ink (o ∷ os) (n ∷ ns) e =
    let less : length os ≡ length ns = omega (arith, e) in
    elim (cases_Bool (leaves ends o n ns)) [
      | inl is ↦ rw is (ap suc (plan_columns ends ink os ns less))
      | inr other ↦ rw other (columns_recoloured ink n.ink (Write n.char ∷ plan ends n.ink os ns) ∙ ap suc (plan_columns ends n.ink os ns less))
    ]

inks_alike : (i j : Ink) → same_ink i j ≡ true → i ≡ j
inks_alike i j e =
    let p = and_parts (bytes_eq i.base j.base) (bytes_eq i.group j.group) e in
    ap (λ b. upon b i.group) ((bytes_eq-Decides i.base j.base).0 p.0) ∙ ap (upon j.base) ((bytes_eq-Decides i.group j.group).0 p.1)

alike : (o n : Inked) → is_alike o n ≡ true → (o.char ≡ n.char) × (o.ink ≡ n.ink)
alike o n e = let p = and_parts (o.char == n.char) (same_ink o.ink n.ink) e in (eqb-true o.char n.char p.0, inks_alike o.ink n.ink p.1)

plan_leads : (ends : Bool) (ink : Ink) (os ns : List Inked) → length os ≡ length ns → Lead (plan ends ink os ns) (characters os) (characters ns)
plan_leads ends ink [] [] e = lead_closed (colours_of ink) [] [] [] tt
plan_leads ends ink [] (n ∷ ns) e = absurd (omega (arith, e))
plan_leads ends ink (o ∷ os) [] e = absurd (omega (arith, e))
plan_leads ends ink (o ∷ os) (n ∷ ns) e =
    let less : length os ≡ length ns = omega (arith, e) in
    elim (cases_Bool (leaves ends o n ns)) [
      | inl is ↦ rw is ((alike o n (and_parts (is_alike o n) (not (ends && (length ns == 0))) is).0).0, plan_leads ends ink os ns less)
      | inr other ↦ rw other (lead_recoloured ink n.ink (Write n.char ∷ plan ends n.ink os ns) (characters (o ∷ os)) (characters (n ∷ ns)) (refl, plan_leads ends n.ink os ns less))
    ]

-- a cell that can be written
abbrev pub CanBeWritten : Inked → Type 0
CanBeWritten x = IsNarrowChar x.char × CanBeOpened x.ink

plan_writable : (ends : Bool) (ink : Ink) (os ns : List Inked) → AllByRecursion CanBeWritten ns → AreWritable (plan ends ink os ns)
plan_writable ends ink [] ns all = writable_closed (colours_of ink) [] tt
plan_writable ends ink (o ∷ os) [] all = writable_closed (colours_of ink) [] tt
plan_writable ends ink (o ∷ os) (n ∷ ns) all =
    elim (cases_Bool (leaves ends o n ns)) [
      | inl is ↦ rw is (tt, plan_writable ends ink os ns all.1)
      | inr other ↦ rw other (writable_recoloured ink n.ink (Write n.char ∷ plan ends n.ink os ns) all.0.1 (all.0.0, plan_writable ends n.ink os ns all.1))
    ]

-- where the last one is written, the cursor is behind it
pub plan_gap : (gap : ℕ) (ink : Ink) (os ns : List Inked) → length os ≡ length ns → 0 < length ns → edit_gap gap (plan true ink os ns) ≡ 0
plan_gap gap ink [] ns e some = absurd (omega (arith, e))
plan_gap gap ink (o ∷ os) [] e some = absurd (omega (arith, e))
plan_gap gap ink (o ∷ []) (n ∷ []) e some =
    let last = Write n.char ∷ closed (colours_of n.ink) [] in
    let written : edit_gap gap (recoloured ink n.ink last) ≡ 0 = gap_recoloured gap ink n.ink last ∙ gap_closed 0 (colours_of n.ink) [] in
    elim (cases_Bool (is_alike o n)) [ inl is ↦ rw is written | inr other ↦ rw other written ]
plan_gap gap ink (o ∷ []) (n ∷ m ∷ ns) e some = absurd (omega (arith, e))
plan_gap gap ink (o ∷ b ∷ os) (n ∷ []) e some = absurd (omega (arith, e))
plan_gap gap ink (o ∷ b ∷ os) (n ∷ m ∷ ns) e some = elim (cases_Bool (leaves true o n (m ∷ ns))) [
  | inl is ↦ rw is (plan_gap (suc gap) ink (b ∷ os) (m ∷ ns) (omega (arith, e)) (omega arith))
  | inr other ↦
      rw other (gap_recoloured gap ink n.ink (Write n.char ∷ plan true n.ink (b ∷ os) (m ∷ ns)) ∙ plan_gap 0 n.ink (b ∷ os) (m ∷ ns) (omega (arith, e)) (omega arith))
]

-- ---- their colours

repaints_closed : (colours : List ℕ) (es : List Edit) (os : List Painted) → repainted colours (closed colours es) os ≡ repainted [] es os
repaints_closed [] es os = refl
repaints_closed (c ∷ cs) es os = refl

repaints_opened : (colours to : List ℕ) (es : List Edit) (os : List Painted) → repainted colours (opened to es) os ≡ repainted (colours ++ to) es os
repaints_opened colours [] es os = ap (λ x. repainted x es os) (sym (append-nil colours))
repaints_opened colours (c ∷ cs) es os = refl

repaints_recoloured : (ink to : Ink) (es : List Edit) (os : List Painted) → repainted (colours_of ink) (recoloured ink to es) os ≡ repainted (colours_of to) es os
repaints_recoloured ink to es os =
    let others = opened to.base (opened to.group es) in
    cond_both (same_ink ink to) es (closed (colours_of ink) others) (λ x. repainted (colours_of ink) x os ≡ repainted (colours_of to) es os)
    (λ e. ap (λ i. repainted (colours_of i) es os) (inks_alike ink to e))
    (λ e. repaints_closed (colours_of ink) others os ∙ repaints_opened [] to.base (opened to.group es) os ∙ repaints_opened to.base to.group es os)

open_closed : (colours : List ℕ) (es : List Edit) → edit_colours colours (closed colours es) ≡ edit_colours [] es
open_closed [] es = refl
open_closed (c ∷ cs) es = refl

open_opened : (colours to : List ℕ) (es : List Edit) → edit_colours colours (opened to es) ≡ edit_colours (colours ++ to) es
open_opened colours [] es = ap (λ x. edit_colours x es) (sym (append-nil colours))
open_opened colours (c ∷ cs) es = refl

open_recoloured : (ink to : Ink) (es : List Edit) → edit_colours (colours_of ink) (recoloured ink to es) ≡ edit_colours (colours_of to) es
open_recoloured ink to es =
    let others = opened to.base (opened to.group es) in
    cond_both (same_ink ink to) es (closed (colours_of ink) others) (λ x. edit_colours (colours_of ink) x ≡ edit_colours (colours_of to) es)
    (λ e. ap (λ i. edit_colours (colours_of i) es) (inks_alike ink to e))
    (λ e. open_closed (colours_of ink) others ∙ open_opened [] to.base (opened to.group es) ∙ open_opened to.base to.group es)

same_cell : (o n : Inked) → is_alike o n ≡ true → as_painted o ≡ as_painted n
same_cell o n e = let p = alike o n e in ap (in_colours (colours_of o.ink)) p.0 ∙ ap (λ i. in_colours (colours_of i) n.char) p.1

-- each cell is in its colours, and none are open behind the last
pub plan_repaints : (ends : Bool) (ink : Ink) (os ns : List Inked) → length os ≡ length ns →
    (repainted (colours_of ink) (plan ends ink os ns) (map as_painted os) ≡ map as_painted ns) × (edit_colours (colours_of ink) (plan ends ink os ns) ≡ [])
plan_repaints ends ink [] [] e = (repaints_closed (colours_of ink) [] [], open_closed (colours_of ink) [])
plan_repaints ends ink [] (n ∷ ns) e = absurd (omega (arith, e))
plan_repaints ends ink (o ∷ os) [] e = absurd (omega (arith, e))
plan_repaints ends ink (o ∷ os) (n ∷ ns) e =
    let less : length os ≡ length ns = omega (arith, e) in
    elim (cases_Bool (leaves ends o n ns)) [
      | inl is ↦
          let rest = plan_repaints ends ink os ns less in
          let here : as_painted o ≡ as_painted n = same_cell o n (and_parts (is_alike o n) (not (ends && (length ns == 0))) is).0 in
          rw is (ap (λ x. x ∷ repainted (colours_of ink) (plan ends ink os ns) (map as_painted os)) here ∙ ap (λ x. as_painted n ∷ x) rest.0, rest.1)
      | inr other ↦
          let rest = plan_repaints ends n.ink os ns less in
          let es = Write n.char ∷ plan ends n.ink os ns in
          rw other (repaints_recoloured ink n.ink es (map as_painted (o ∷ os)) ∙ ap (λ x. as_painted n ∷ x) rest.0, open_recoloured ink n.ink es ∙ rest.1)
    ]

-- ---- from a line to another

all_spaces : (m : ℕ) → AllByRecursion CanBeWritten (replicate m (in_ink NONE 0x20))
all_spaces zero = tt
all_spaces (suc m) = ((is_space, none_opens), all_spaces m)

all_padded : (m : ℕ) (cells : List Inked) → AllByRecursion CanBeWritten cells → AllByRecursion CanBeWritten (cells ++ replicate m (in_ink NONE 0x20))
all_padded m [] all = all_spaces m
all_padded m (c ∷ cells) all = (all.0, all_padded m cells all.1)

-- edits that are planned lead from a line to another, of which each has at most n characters of one column behind what both begin with
pub lines_turn : (w k n : ℕ) (ends : Bool) (old new : List ℕ) (p : Tails w k n old new) (os ns : List Inked) → characters os ≡ p.olds → characters ns ≡ p.news →
    AllByRecursion CanBeWritten ns → Turns w k (plan ends NONE (padded n os) (padded n ns)) old new
lines_turn w k n ends old new p os ns oc nc all =
    let few : length os ≤ n = omega (arith, p.few_olds, ap length oc, length-map os (λ (x : Inked). x.char)) in
    let few' : length ns ≤ n = omega (arith, p.few_news, ap length nc, length-map ns (λ (x : Inked). x.char)) in
    let a : length (padded n os) ≡ n = padded_length n os few in
    let b : length (padded n ns) ≡ n = padded_length n ns few' in
    let es = plan ends NONE (padded n os) (padded n ns) in
    let many : edit_columns es ≡ n = plan_columns ends NONE (padded n os) (padded n ns) (a ∙ sym b) ∙ b in
    let olds : characters (padded n os) ≡ padded_chars n p.olds = padded_characters n os ∙ ap (padded_chars n) oc in
    let news : characters (padded n ns) ≡ padded_chars n p.news = padded_characters n ns ∙ ap (padded_chars n) nc in
    let leads : Lead es (padded_chars n p.olds) (padded_chars n p.news) =
    subst (λ x. Lead es x (padded_chars n p.news)) olds (subst (λ x. Lead es (characters (padded n os)) x) news (plan_leads ends NONE (padded n os) (padded n ns) (a ∙ sym b))) in
    record {
      part = record {
        same = p.same;
        olds = p.olds;
        news = p.news;
        old_is = p.old_is;
        new_is = p.new_is;
        column = p.column;
        room = omega (arith, p.room, many);
        few_olds = omega (arith, p.few_olds, many);
        few_news = omega (arith, p.few_news, many);
        old_narrow = p.old_narrow;
        new_narrow = p.new_narrow;
      };
      writable = plan_writable ends NONE (padded n os) (padded n ns) (all_padded (n - length ns) ns all);
      lead = subst (λ m. Lead es (padded_chars m p.olds) (padded_chars m p.news)) (sym many) leads;
    }
