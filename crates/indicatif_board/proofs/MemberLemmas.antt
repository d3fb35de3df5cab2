-- Members by their places: the lists that a board keeps, and the members of its state.
use Rattle.std.proofs.Common.{take, ◌++◌, set, get_or, chars, subst, Vec, Global, Option, Some, None, inl, inr, ◌≡◌, ℕ, zero, suc, ◌+◌, ◌<◌, Bool, true, false, not, List, [], ◌∷◌, map, drop, length, refl, sym, ◌∙◌, ap, arith, if◌then◌else◌}
use Rattle.std.specs.Prelude.{◌==◌, ◌≢◌}
use Rattle.std.specs.List.{prefix_len, position_or_len, insert, remove}
use Rattle.std.proofs.lemmas.Bool.{cases_Bool, eq-eqb, ne_eqb}
use Rattle.indicatif_term.specs.Lists.{Lists, BarLines}
use Rattle.indicatif_term.specs.Lines.{bar_lines, line_text}
use Rattle.indicatif_term.specs.Limiters.{Limiter}
use Rattle.indicatif_term.specs.declared.target.lines.Segment.{Segment}
use Rattle.indicatif_term.specs.declared.target.lines.LineType.{LineType}
use Rattle.std.proofs.lemmas.Simd.{map-map}
use Rattle.std.proofs.lemmas.List.{length-map}
use Rattle.indicatif_bar.specs.Trackers.{Tracking}
use Rattle.indicatif_bar.specs.Commands.{BarRecord}
use Rattle.indicatif_bar.specs.Bars.{lines_of_bar, lines_take_memory}
use Rattle.indicatif_bar.specs.Machines.{Target}
use Rattle.indicatif_board.specs.Boards.{BoardState, Id, Location, index_of, taken_in, turned_away, bar_changed}
use Rattle.indicatif_text.specs.declared.refusal.Refusal.TheVariants.{ForeignBar, NotMember}
use Rattle.indicatif_board.specs.Members.{Member, place_of, leaders, frame_of, order_of, changed_at, new_member, is_member, without, said_of}
use Rattle.indicatif_board.specs.ShownBars.{HoldsState}
use Rattle.indicatif_board.specs.Inside.ShownBars.{HasPlace, named_laid_out, named_layout_takes}
use Rattle.indicatif_board.specs.declared.members.Member.{Member as MemberValue}

-- a member without its number and lines
abbrev pub member_of : {K : Type 0} → Member (BarRecord K) → MemberValue K
member_of m = record { bar = m.bar; dropped = m.dropped }

pub drop-map : {X Y : Type 0} (f : X → Y) (n : ℕ) (xs : List X) → drop n (map f xs) ≡ map f (drop n xs)
drop-map f zero xs = refl
drop-map f (suc n) [] = refl
drop-map f (suc n) (x ∷ xs) = drop-map f n xs

-- how many pass a test is the same before a map
pub prefix-map : {X Y : Type 0} (f : X → Y) (p : Y → Bool) (xs : List X) → prefix_len p (map f xs) ≡ prefix_len (λ x. p (f x)) xs
prefix-map f p [] = refl
prefix-map f p (x ∷ xs) = ap (λ n. if p (f x) then 1 + n else 0) (prefix-map f p xs)

-- the dropped ones at the head
pub leaders_of : {K : Type 0} → (members : List (MemberValue K)) (ms : List (Member (BarRecord K))) → members ≡ map member_of ms → prefix_len (λ m. m.dropped) members ≡ leaders ms
leaders_of members ms e = ap (prefix_len (λ m. m.dropped)) e ∙ prefix-map member_of (λ m. m.dropped) ms

-- the place of a bar
pub place_is : {K : Type 0} → (frame : List Segment) (ms : List (Member (BarRecord K))) (number : ℕ) → map bar_lines frame ≡ frame_of ms →
    position_or_len (λ s. s.bar == number) frame ≡ place_of number ms
place_is {K = K} frame ms number e =
    sym (prefix-map bar_lines (λ (s : BarLines). not (s.bar == number)) frame) ∙ ap (prefix_len (λ (s : BarLines). not (s.bar == number))) e
    ∙ prefix-map (λ (m : Member (BarRecord K)). let s : BarLines = record { bar = m.number; lines = m.stored } in s) (λ (s : BarLines). not (s.bar == number)) ms

-- ---- a member changed

pub changed-set : {B : Type 0} (number : ℕ) (f : Member B → Member B) (d : Member B) (ms : List (Member B)) → place_of number ms < length ms →
    changed_at number f ms ≡ set ms (place_of number ms) (f (get_or ms (place_of number ms) d))
changed-set number f d [] inside = absurd (omega (arith, inside))
changed-set number f d (m ∷ ms) inside = elim (cases_Bool (m.number == number)) [
  | inl here ↦ rw here refl
  | inr there ↦
      let p = place_of number ms in
      let step : 1 + p ≡ suc p = omega arith in
      let e : place_of number (m ∷ ms) ≡ suc p = rw there step in
      let within : p < length ms = omega (arith, inside, e) in
      rw (there, step) (ap (λ x. m ∷ x) (changed-set number f d ms within))
]

pub map-set_at : {X Y : Type 0} (f : X → Y) (xs : List X) (i : ℕ) (x : X) → map f (set xs i x) ≡ set (map f xs) i (f x)
map-set_at f [] i x = refl
map-set_at f (y ∷ xs) zero x = refl
map-set_at f (y ∷ xs) (suc i) x = ap (λ z. f y ∷ z) (map-set_at f xs i x)

pub get_or-map_at : {X Y : Type 0} (f : X → Y) (xs : List X) (i : ℕ) (d : X) (e : Y) → i < length xs → get_or (map f xs) i e ≡ f (get_or xs i d)
get_or-map_at f [] i d e inside = absurd (omega (arith, inside))
get_or-map_at f (x ∷ xs) zero d e inside = refl
get_or-map_at f (x ∷ xs) (suc i) d e inside = get_or-map_at f xs i d e (omega (arith, inside))

pub set-own : {X : Type 0} (xs : List X) (i : ℕ) (d : X) → i < length xs → set xs i (get_or xs i d) ≡ xs
set-own [] i d inside = refl
set-own (x ∷ xs) zero d inside = refl
set-own (x ∷ xs) (suc i) d inside = ap (λ z. x ∷ z) (set-own xs i d (omega (arith, inside)))

-- a bar's lines laid out at its place
abbrev stored_with : {K : Type 0} → Tracking K → ℕ → ℕ → Member (BarRecord K) → Member (BarRecord K)
stored_with tracks now columns m = record m { stored = map chars (lines_of_bar tracks m.bar now columns) }

abbrev pub segment_of : {K : Type 0} → Member (BarRecord K) → BarLines
segment_of m = record { bar = m.number; lines = m.stored }

module _ {K : Type 0} (tracks : Tracking K) (frame : List Segment) (members : List (MemberValue K)) (made : ℕ) (bottom : Bool) (s : BoardState (BarRecord K))
    (target : Target) (now width : ℕ) (at : ℕ) (item : MemberValue K) (old : Segment) (items : Vec LineType Global)
    (columns : target.columns ≡ width) (holds : HoldsState frame members made bottom s)
    (item_is : item ≡ get_or members at item) (old_is : old ≡ get_or frame at old) (lines_are : map line_text items.items ≡ lines_of_bar tracks item.bar now width) where
  laid_some : (number : ℕ) → at ≡ place_of number s.members → at < length s.members →
      HoldsState (set frame at (record { bar = old.bar; lines = items })) members made bottom (named_laid_out tracks target now (Some number) s)
  laid_some number here within =
      let ms = s.members in
      let m = get_or ms at (new_member 0 item.bar) in
      let place : place_of number ms < length ms = subst (λ k. k < length ms) here within in
      let change : changed_at number (stored_with tracks now target.columns) ms ≡ set ms at (stored_with tracks now target.columns m) =
      subst (λ k. changed_at number (stored_with tracks now target.columns) ms ≡ set ms k (stored_with tracks now target.columns (get_or ms k (new_member 0 item.bar)))) (sym here)
      (changed-set number (stored_with tracks now target.columns) (new_member 0 item.bar) ms place) in
      let item_of : item ≡ member_of m = item_is ∙ ap (λ xs. get_or xs at item) holds.members_are ∙ get_or-map_at member_of ms at (new_member 0 item.bar) item within in
      let length_is : length frame ≡ length ms = sym (length-map frame bar_lines) ∙ ap length holds.frame_is ∙ length-map ms segment_of in
      let old_of : bar_lines old ≡ segment_of m =
      ap bar_lines old_is ∙ sym (get_or-map_at bar_lines frame at old (segment_of m) (omega (arith, length_is, within))) ∙ ap (λ xs. get_or xs at (segment_of m)) holds.frame_is
      ∙ get_or-map_at segment_of ms at (new_member 0 item.bar) (segment_of m) within in
      let texts : map (λ line. chars (line_text line)) items.items ≡ map chars (lines_of_bar tracks m.bar now target.columns) =
      sym (map-map chars line_text items.items) ∙ ap (map chars) (lines_are ∙ ap (λ x. lines_of_bar tracks x.bar now width) item_of ∙ ap (λ w. lines_of_bar tracks m.bar now w) (sym columns)) in
      let number_is : old.bar ≡ m.number = ap (λ x. x.bar) old_of in
      let segment : bar_lines (record { bar = old.bar; lines = items }) ≡ segment_of (stored_with tracks now target.columns m) = cc (number_is, texts) in
      record {
        members_are = holds.members_are ∙ sym (ap (map member_of) change ∙ map-set_at member_of ms at (stored_with tracks now target.columns m) ∙ sym (map-set_at member_of ms at m)
            ∙ ap (map member_of) (set-own ms at (new_member 0 item.bar) within));
        frame_is = map-set_at bar_lines frame at (record { bar = old.bar; lines = items }) ∙ ap (λ xs. set xs at (bar_lines (record { bar = old.bar; lines = items }))) holds.frame_is
            ∙ ap (set (frame_of ms) at) segment
            ∙ sym (map-set_at segment_of ms at (stored_with tracks now target.columns m)) ∙ ap frame_of (sym change);
        made_is = holds.made_is;
        bottom_is = holds.bottom_is;
      }

  laid_named : (number : Option ℕ) → HasPlace number (Some at) s.members →
      HoldsState (set frame at (record { bar = old.bar; lines = items })) members made bottom (named_laid_out tracks target now number s)
  laid_named None placed = absurd placed
  laid_named (Some n) placed = laid_some n placed.0 placed.1

  pub laid_at : (number bar : Option ℕ) → bar ≡ Some at → HasPlace number bar s.members →
      HoldsState (set frame at (record { bar = old.bar; lines = items })) members made bottom (named_laid_out tracks target now number s)
  laid_at number bar e placed = laid_named number (subst (λ b. HasPlace number b s.members) e placed)

-- ---- who is a member

pub frame_length : {K : Type 0} → (frame : List Segment) (ms : List (Member (BarRecord K))) → map bar_lines frame ≡ frame_of ms → length frame ≡ length ms
frame_length frame ms e = sym (length-map frame bar_lines) ∙ ap length e ∙ length-map ms segment_of

member_none : {K : Type 0} → (number : ℕ) (ms : List (Member (BarRecord K))) → place_of number ms ≡ length ms → is_member number ms ≡ false
member_none number [] e = refl
member_none number (m ∷ ms) e = elim (cases_Bool (m.number == number)) [
  | inl here ↦ let none : 0 ≡ length (m ∷ ms) = sym (rw here refl) ∙ e in absurd (omega (arith, none))
  | inr there ↦ let more : 1 + place_of number ms ≡ length (m ∷ ms) = sym (rw there refl) ∙ e in rw there (member_none number ms (omega (arith, more)))
]

member_some : {K : Type 0} → (number : ℕ) (d : Member (BarRecord K)) (ms : List (Member (BarRecord K))) → place_of number ms < length ms →
    is_member number ms ≡ not (get_or ms (place_of number ms) d).dropped
member_some number d [] within = absurd (omega (arith, within))
member_some number d (m ∷ ms) within = elim (cases_Bool (m.number == number)) [
  | inl here ↦ rw here refl
  | inr there ↦
      let step : 1 + place_of number ms ≡ suc (place_of number ms) = omega arith in
      let e : place_of number (m ∷ ms) ≡ suc (place_of number ms) = rw there step in
      rw (there, step) (member_some number d ms (omega (arith, within, e)))
]

turned : {K : Type 0} → (mark : ℕ) (id : Id) (s : BoardState (BarRecord K)) (b : Bool) → id.mark ≡ mark → is_member id.number s.members ≡ b →
    turned_away mark id s ≡ (if b then None else Some NotMember)
turned mark id s b same e = rw (eq-eqb id.mark mark same, e) refl

module _ {K : Type 0} (frame : List Segment) (members : List (MemberValue K)) (made : ℕ) (bottom : Bool) (mark : ℕ) (id : Id) (s : BoardState (BarRecord K))
    (at : ℕ) (same : id.mark ≡ mark) (holds : HoldsState frame members made bottom s)
    (at_is : at ≡ position_or_len (λ x. x.bar == id.number) frame) where
  pub placed_at : at ≡ place_of id.number s.members
  placed_at = at_is ∙ place_is frame s.members id.number holds.frame_is

  pub found_none : at ≡ length frame → turned_away mark id s ≡ Some NotMember
  found_none e = turned mark id s false same (member_none id.number s.members (sym placed_at ∙ e ∙ frame_length frame s.members holds.frame_is))

  found_some : (item : MemberValue K) (b : Bool) → at < length s.members → item ≡ get_or members at item → item.dropped ≡ b → turned_away mark id s ≡ (if not b then None else Some NotMember)
  found_some item b within item_is e =
      let d = new_member 0 item.bar in
      let place : place_of id.number s.members < length s.members = subst (λ k. k < length s.members) placed_at within in
      let item_of : item ≡ member_of (get_or s.members at d) = item_is ∙ ap (λ xs. get_or xs at item) holds.members_are ∙ get_or-map_at member_of s.members at d item within in
      let gone : (get_or s.members (place_of id.number s.members) d).dropped ≡ b = ap (λ k. (get_or s.members k d).dropped) (sym placed_at) ∙ sym (ap (λ x. x.dropped) item_of) ∙ e in
      turned mark id s (not b) same (member_some id.number d s.members place ∙ ap not gone)

  pub found_gone : (item : MemberValue K) → at < length s.members → item ≡ get_or members at item → item.dropped ≡ true → turned_away mark id s ≡ Some NotMember
  found_gone item within item_is e = found_some item true within item_is e

  pub found_there : (item : MemberValue K) → at < length s.members → item ≡ get_or members at item → item.dropped ≡ false → turned_away mark id s ≡ None
  found_there item within item_is e = found_some item false within item_is e

-- a bar told something at its place
told_by : {K : Type 0} → (f : BarRecord K → BarRecord K) (frame : List Segment) (members : List (MemberValue K)) (made : ℕ) (bottom : Bool) (mark : ℕ)
    (s : BoardState (BarRecord K)) (number at : ℕ) (item : MemberValue K) (bar : BarRecord K) →
    HoldsState frame members made bottom s → at ≡ place_of number s.members → at < length s.members → item ≡ get_or members at item → bar ≡ f item.bar →
    HoldsState frame (set members at (record { bar = bar; dropped = item.dropped })) made bottom (bar_changed number f s)
told_by {K = K} f frame members made bottom mark s number at item bar holds here within item_is bar_is =
    let ms = s.members in
    let change = λ (m : Member (BarRecord K)). let x : Member (BarRecord K) = record m { bar = f m.bar } in x in
    let d = new_member 0 item.bar in
    let m = get_or ms at d in
    let place : place_of number ms < length ms = subst (λ k. k < length ms) here within in
    let changes : changed_at number change ms ≡ set ms at (change m) =
    subst (λ k. changed_at number change ms ≡ set ms k (change (get_or ms k d))) (sym here) (changed-set number change d ms place) in
    let item_of : item ≡ member_of m = item_is ∙ ap (λ xs. get_or xs at item) holds.members_are ∙ get_or-map_at member_of ms at d item within in
    let bar_of : bar ≡ f m.bar = bar_is ∙ ap (λ x. f x.bar) item_of in
    let dropped_is : item.dropped ≡ m.dropped = ap (λ x. x.dropped) item_of in
    let item' : MemberValue K = record { bar = bar; dropped = item.dropped } in
    let new_item : item' ≡ member_of (change m) = cc (bar_of, dropped_is) in
    record {
      members_are = ap (λ xs. set xs at item') holds.members_are ∙ ap (set (map member_of ms) at) new_item ∙ sym (map-set_at member_of ms at (change m)) ∙ ap (map member_of) (sym changes);
      frame_is = holds.frame_is ∙ ap frame_of (sym (set-own ms at d within)) ∙ map-set_at segment_of ms at m ∙ sym (map-set_at segment_of ms at (change m)) ∙ ap frame_of (sym changes);
      made_is = holds.made_is;
      bottom_is = holds.bottom_is;
    }

-- the same of a member whose bar alone has changed
pub told_at : {K : Type 0} → (f : BarRecord K → BarRecord K) (frame : List Segment) (members : List (MemberValue K)) (made : ℕ) (bottom : Bool) (mark : ℕ)
    (s : BoardState (BarRecord K)) (number at : ℕ) (item next : MemberValue K) → next ≡ record item { bar = next.bar } →
    HoldsState frame members made bottom s → at ≡ place_of number s.members → at < length s.members → item ≡ get_or members at item → next.bar ≡ f item.bar →
    HoldsState frame (set members at next) made bottom (bar_changed number f s)
told_at f frame members made bottom mark s number at item next stays holds here within item_is bar_is =
    subst (λ m. HoldsState frame (set members at m) made bottom (bar_changed number f s)) (sym stays)
    (told_by f frame members made bottom mark s number at item next.bar holds here within item_is bar_is)

-- a changed bar that is as it was
same_by : {K : Type 0} → (frame : List Segment) (members : List (MemberValue K)) (made : ℕ) (bottom : Bool) (s : BoardState (BarRecord K)) (at : ℕ)
    (item : MemberValue K) (bar : BarRecord K) →
    HoldsState frame members made bottom s → at < length s.members → item ≡ get_or members at item → bar ≡ item.bar →
    HoldsState frame (set members at (record { bar = bar; dropped = item.dropped })) made bottom s
same_by {K = K} frame members made bottom s at item bar holds within item_is bar_is =
    let item' : MemberValue K = record { bar = bar; dropped = item.dropped } in
    let same : item' ≡ get_or members at item = ap (λ z. let x : MemberValue K = record { bar = z; dropped = item.dropped } in x) bar_is ∙ item_is in
    let size : length members ≡ length s.members = ap length holds.members_are ∙ length-map s.members member_of in
    subst (λ xs. HoldsState frame xs made bottom s) (sym (ap (set members at) same ∙ set-own members at item (omega (arith, size, within)))) holds

pub same_at : {K : Type 0} → (frame : List Segment) (members : List (MemberValue K)) (made : ℕ) (bottom : Bool) (s : BoardState (BarRecord K)) (at : ℕ)
    (item next : MemberValue K) → next ≡ record item { bar = next.bar } →
    HoldsState frame members made bottom s → at < length s.members → item ≡ get_or members at item → next.bar ≡ item.bar →
    HoldsState frame (set members at next) made bottom s
same_at frame members made bottom s at item next stays holds within item_is bar_is =
    subst (λ m. HoldsState frame (set members at m) made bottom s) (sym stays) (same_by frame members made bottom s at item next.bar holds within item_is bar_is)

-- what is said of each bar alike is said of one that is there
pub said_there : {B X : Type 0} (other x : X) (number : ℕ) (ms : List (Member B)) → place_of number ms < length ms → said_of other (λ b. x) number ms ≡ x
said_there other x number [] within = absurd (omega (arith, within))
said_there other x number (m ∷ ms) within = elim (cases_Bool (m.number == number)) [
  | inl here ↦ rw here refl
  | inr there ↦ let e : place_of number (m ∷ ms) ≡ 1 + place_of number ms = rw there refl in rw there (said_there other x number ms (omega (arith, within, e)))
]

-- what is said of no bar
pub said_none : {B X : Type 0} (x : X) (number : ℕ) (ms : List (Member B)) → said_of x (λ b. x) number ms ≡ x
said_none x number [] = refl
said_none x number (m ∷ ms) = elim (cases_Bool (m.number == number)) [ inl here ↦ rw here refl | inr there ↦ rw there (said_none x number ms) ]

-- a bar told something stands where it stood
pub place-changed : {B : Type 0} (number : ℕ) (f : Member B → Member B) (ms : List (Member B)) → ((m : Member B) → (f m).number ≡ m.number) → order_of (changed_at number f ms) ≡ order_of ms
place-changed number f [] keeps = refl
place-changed number f (m ∷ ms) keeps = elim (cases_Bool (m.number == number)) [
  | inl here ↦ rw here (ap (λ k. k ∷ order_of ms) (keeps m))
  | inr there ↦ rw there (ap (λ ks. m.number ∷ ks) (place-changed number f ms keeps))
]

place-order : {B : Type 0} (number : ℕ) (ms : List (Member B)) → place_of number ms ≡ position_or_len (λ k. k == number) (order_of ms)
place-order number ms = sym (prefix-map (λ m. m.number) (λ k. not (k == number)) ms)

pub told_placed : {K : Type 0} → (f : BarRecord K → BarRecord K) (number at : ℕ) (ms : List (Member (BarRecord K))) → (at ≡ place_of number ms) × (at < length ms) →
    let change = λ (m : Member (BarRecord K)). let x : Member (BarRecord K) = record m { bar = f m.bar } in x in (at ≡ place_of number (changed_at number change ms)) × (at < length
    (changed_at number change ms))
told_placed {K = K} f number at ms placed =
    let change = λ (m : Member (BarRecord K)). let x : Member (BarRecord K) = record m { bar = f m.bar } in x in
    let order = place-changed number change ms (λ m. refl) in
    let size : length (changed_at number change ms) ≡ length ms = sym (length-map (changed_at number change ms) (λ m. m.number)) ∙ ap length order ∙ length-map ms (λ m. m.number) in
    (placed.0 ∙ place-order number ms ∙ ap (position_or_len (λ k. k == number)) (sym order) ∙ sym (place-order number (changed_at number change ms)), omega (arith, size, placed.1))

-- laying lines out leaves the rows, and the limiter
pub laid_lists : {K : Type 0} (tracks : Tracking K) (target : Target) (now : ℕ) (number : Option ℕ) (s : BoardState (BarRecord K)) → (named_laid_out tracks target now number s).lists ≡ s.lists
laid_lists tracks target now None s = refl
laid_lists tracks target now (Some number) s = refl

pub laid_limiter : {K : Type 0} (tracks : Tracking K) (target : Target) (now : ℕ) (number : Option ℕ) (s : BoardState (BarRecord K)) → (named_laid_out tracks target now number s).limiter ≡ s.limiter
laid_limiter tracks target now None s = refl
laid_limiter tracks target now (Some number) s = refl

-- another limiter, and other rows
pub held_with : {K : Type 0} → (frame : List Segment) (members : List (MemberValue K)) (made : ℕ) (bottom : Bool) (s : BoardState (BarRecord K)) (limiter : Option Limiter) (l : Lists) →
    HoldsState frame members made bottom s → HoldsState frame members made bottom (record s { limiter = limiter; lists = l })
held_with frame members made bottom s limiter l holds = record {
  members_are = holds.members_are;
  frame_is = holds.frame_is;
  made_is = holds.made_is;
  bottom_is = holds.bottom_is;
}

-- a bar of another board
pub found_foreign : {K : Type 0} → (mark : ℕ) (id : Id) (s : BoardState (BarRecord K)) → (id.mark ≢ mark) → turned_away mark id s ≡ Some ForeignBar
found_foreign mark id s other = rw (ne_eqb id.mark mark other) refl

-- ---- insertions

pub map-inserted : {X Y : Type 0} (f : X → Y) (xs : List X) (i : ℕ) (x : X) → map f (insert xs i x) ≡ insert (map f xs) i (f x)
map-inserted f xs zero x = refl
map-inserted f [] (suc i) x = refl
map-inserted f (y ∷ xs) (suc i) x = ap (λ zs. f y ∷ zs) (map-inserted f xs i x)

-- a new bar at its place
pub taken_holds : {K : Type 0} → (frame frame' : List Segment) (members members' : List (MemberValue K)) (number after : ℕ) (bottom : Bool) (s : BoardState
    (BarRecord K)) (spot : Location) (at : ℕ) (bar : BarRecord K) (lines : Vec LineType Global) →
    HoldsState frame members number bottom s → at ≡ index_of spot s.members → lines.items ≡ [] → frame' ≡ insert frame at (record { bar = number; lines = lines }) →
    members' ≡ insert members at (record { bar = bar; dropped = false }) → after ≡ number + 1 → HoldsState frame' members' after bottom (taken_in spot bar s)
taken_holds {K = K} frame frame' members members' number after bottom s spot at bar lines holds here none frame_is members_are after_is =
    let ms = s.members in
    let item : MemberValue K = record { bar = bar; dropped = false } in
    let line : Segment = record { bar = number; lines = lines } in
    let member = new_member s.made bar in
    let line_is : bar_lines line ≡ segment_of member = ap (λ xs. let l : BarLines = record { bar = number; lines = map (λ x. chars (line_text x)) xs } in l) none
    ∙ ap (λ n. let l : BarLines = record { bar = n; lines = [] } in l) holds.made_is in
    record {
      members_are = members_are ∙ ap (λ xs. insert xs at item) holds.members_are ∙ ap (λ k. insert (map member_of ms) k item) here ∙ sym (map-inserted member_of ms (index_of spot ms) member);
      frame_is = ap (map bar_lines) frame_is ∙ map-inserted bar_lines frame at line ∙ ap (λ xs. insert xs at (bar_lines line)) holds.frame_is ∙ ap (λ k. insert (frame_of ms) k (bar_lines line)) here
          ∙ ap (insert (frame_of ms) (index_of spot ms)) line_is ∙ sym (map-inserted segment_of ms (index_of spot ms) member);
      made_is = after_is ∙ ap (λ n. n + 1) holds.made_is;
      bottom_is = holds.bottom_is;
    }

-- as many bars stand in the board as in its state
pub members_length : {K : Type 0} → (frame : List Segment) (members : List (MemberValue K)) (made : ℕ) (bottom : Bool) (s : BoardState (BarRecord K)) →
    HoldsState frame members made bottom s → length members ≡ length s.members
members_length frame members made bottom s holds = ap length holds.members_are ∙ length-map s.members member_of

-- ---- removals

take-map : {X Y : Type 0} (f : X → Y) (n : ℕ) (xs : List X) → take n (map f xs) ≡ map f (take n xs)
take-map f zero xs = refl
take-map f (suc n) [] = refl
take-map f (suc n) (x ∷ xs) = ap (λ ys. f x ∷ ys) (take-map f n xs)

joined-map : {X Y : Type 0} (f : X → Y) (xs ys : List X) → map f xs ++ map f ys ≡ map f (xs ++ ys)
joined-map f [] ys = refl
joined-map f (x ∷ xs) ys = ap (λ zs. f x ∷ zs) (joined-map f xs ys)

pub map-removed : {X Y : Type 0} (f : X → Y) (xs : List X) (i : ℕ) → remove (map f xs) i ≡ map f (remove xs i)
map-removed f xs i = ap (λ zs. zs ++ drop (suc i) (map f xs)) (take-map f i xs) ∙ ap (λ zs. map f (take i xs) ++ zs) (drop-map f (suc i) xs) ∙ joined-map f (take i xs) (drop (suc i) xs)

removed_holds : {K : Type 0} → (frame : List Segment) (members : List (MemberValue K)) (made : ℕ) (bottom : Bool) (s : BoardState (BarRecord K)) (number at : ℕ) →
    HoldsState frame members made bottom s → at ≡ place_of number s.members →
    HoldsState (remove frame at) (remove members at) made bottom (record s { members = without number s.members })
removed_holds frame members made bottom s number at holds here = record {
  members_are = ap (λ xs. remove xs at) holds.members_are ∙ map-removed member_of s.members at ∙ ap (λ k. map member_of (remove s.members k)) here;
  frame_is = sym (map-removed bar_lines frame at) ∙ ap (λ xs. remove xs at) holds.frame_is ∙ map-removed segment_of s.members at ∙ ap (λ k. frame_of (remove s.members k)) here;
  made_is = holds.made_is;
  bottom_is = holds.bottom_is;
}

said_at : {B X : Type 0} (other : X) (f : B → X) (number : ℕ) (d : Member B) (ms : List (Member B)) → place_of number ms < length ms →
    said_of other f number ms ≡ f (get_or ms (place_of number ms) d).bar
said_at other f number d [] within = absurd (omega (arith, within))
said_at other f number d (m ∷ ms) within = elim (cases_Bool (m.number == number)) [
  | inl here ↦ rw here refl
  | inr there ↦
      let step : 1 + place_of number ms ≡ suc (place_of number ms) = omega arith in
      let e : place_of number (m ∷ ms) ≡ suc (place_of number ms) = rw there step in
      rw (there, step) (said_at other f number d ms (omega (arith, within, e)))
]

-- what is said of the bar that stands at a place
pub said_of_place : {K X : Type 0} (other : X) (f : BarRecord K → X) (members : List (MemberValue K)) (ms : List (Member (BarRecord K))) (number at : ℕ) (item : MemberValue K) →
    members ≡ map member_of ms → at ≡ place_of number ms →
    at < length members → item ≡ get_or members at item → f item.bar ≡ said_of other f number ms
said_of_place other f members ms number at item same here within item_is =
    let d = new_member 0 item.bar in
    let size : length members ≡ length ms = ap length same ∙ length-map ms member_of in
    let inside : at < length ms = omega (arith, size, within) in
    let place : place_of number ms < length ms = subst (λ k. k < length ms) here inside in
    let item_of : item ≡ member_of (get_or ms at d) = item_is ∙ ap (λ xs. get_or xs at item) same ∙ get_or-map_at member_of ms at d item inside in
    ap (λ x. f x.bar) item_of ∙ ap (λ k. f (get_or ms k d).bar) here ∙ sym (said_at other f number d ms place)

-- whether a named bar's lines take memory is said of the bar at its place
pub lays_at : {K : Type 0} (tracks : Tracking K) (members : List (MemberValue K)) (s : BoardState (BarRecord K)) (number bar : Option ℕ) (at : ℕ) (item : MemberValue K) →
    members ≡ map member_of s.members → bar ≡ Some at → HasPlace number bar s.members → at < length members → item ≡ get_or members at item →
    lines_take_memory item.bar ≡ true → named_layout_takes tracks number s ≡ true
lays_at tracks members s None bar at item same bar_is placed within item_is takes = absurd (subst (λ b. HasPlace None b s.members) bar_is placed)
lays_at tracks members s (Some n) bar at item same bar_is placed within item_is takes =
    let here = subst (λ b. HasPlace (Some n) b s.members) bar_is placed in
    sym (said_of_place false lines_take_memory members s.members n at item same here.0 within item_is) ∙ takes

-- a bar taken out
pub removed_with : {K : Type 0} → (frame frame' : List Segment) (members members' : List (MemberValue K)) (made : ℕ) (bottom : Bool) (s : BoardState
    (BarRecord K)) (number at : ℕ) → HoldsState frame members made bottom s →
    at ≡ place_of number s.members → frame' ≡ remove frame at → members' ≡ remove members at → HoldsState frame' members' made bottom (record s { members = without number s.members })
removed_with frame frame' members members' made bottom s number at holds here frame_is members_are =
    let held = removed_holds frame members made bottom s number at holds here in
    record {
      members_are = members_are ∙ held.members_are;
      frame_is = ap (map bar_lines) frame_is ∙ held.frame_is;
      made_is = held.made_is;
      bottom_is = held.bottom_is;
    }

-- ---- the bars of the frame, and those of the order

-- a bar's lines laid out anew
pub relaid_bars : (frame : List Segment) (at : ℕ) (old : Segment) (items : Vec LineType Global) → at < length frame → old ≡ get_or frame at old →
    map (λ (x : Segment). x.bar) (set frame at (record { bar = old.bar; lines = items })) ≡ map (λ (x : Segment). x.bar) frame
relaid_bars frame at old items within own =
    let bar = λ (x : Segment). x.bar in
    map-set_at bar frame at (record { bar = old.bar; lines = items }) ∙ sym (map-set_at bar frame at old) ∙ ap (λ x. map bar (set frame at x)) own ∙ ap (map bar) (set-own frame at old within)

pub inserted_bars : (frame : List Segment) (order : List ℕ) (at : ℕ) (segment : Segment) → map (λ (x : Segment). x.bar) frame ≡ order →
    map (λ (x : Segment). x.bar) (insert frame at segment) ≡ insert order at segment.bar
inserted_bars frame order at segment e = map-inserted (λ (x : Segment). x.bar) frame at segment ∙ ap (λ xs. insert xs at segment.bar) e

pub removed_bars : (frame : List Segment) (order : List ℕ) (at : ℕ) → map (λ (x : Segment). x.bar) frame ≡ order → map (λ (x : Segment). x.bar) (remove frame at) ≡ remove order at
removed_bars frame order at e = sym (map-removed (λ (x : Segment). x.bar) frame at) ∙ ap (λ xs. remove xs at) e

pub dropped_bars : (frame : List Segment) (order : List ℕ) (count : ℕ) → map (λ (x : Segment). x.bar) frame ≡ order → map (λ (x : Segment). x.bar) (drop count frame) ≡ drop count order
dropped_bars frame order count e = sym (drop-map (λ (x : Segment). x.bar) count frame) ∙ ap (drop count) e

-- the order of a state
pub order_is : {K : Type 0} → (frame : List Segment) (ms : List (Member (BarRecord K))) → map bar_lines frame ≡ frame_of ms → map (λ (x : Segment). x.bar) frame ≡ order_of ms
order_is frame ms e =
    let bar = λ (l : BarLines). l.bar in
    sym (map-map bar bar_lines frame) ∙ ap (map bar) e ∙ map-map bar segment_of ms
