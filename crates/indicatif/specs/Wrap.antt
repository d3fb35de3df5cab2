-- What a wrapper makes of its bar.
use Rattle.std.specs.Prelude.{◌≡◌, ◌≢◌, ℕ, Bool, true, false, Option, Some, None, IfSome, is_some, Result, Ok, Err, ◌⊎◌, pos}
use Rattle.std.specs.declared.io.traits.SeekFrom.{SeekFrom}
use Rattle.std.specs.declared.io.traits.SeekFrom.TheVariants.{Start, End, Current}
use Rattle.futures.specs.declared.task.Poll.{Poll}
use Rattle.futures.specs.declared.task.Poll.TheVariants.{Ready, Pending}
use Rattle.indicatif_text.specs.declared.refusal.Drawn.{Drawn}
use Rattle.indicatif_text.specs.declared.refusal.Refusal.{Refusal}
use Rattle.indicatif.specs.Moves.{Standing, Goes, Move, Advance, Place, Finish}
use Rattle.indicatif.specs.Seek.{Seeks, no_seeks, after_move, after_seek}
use Rattle.indicatif.specs.declared.wrappers.wrap.ProgressBarIter.{ProgressBarIter}

-- ---- what a wrapper is

-- the wrapped value
abbrev pub inner_of : {T P : Type 0} → ProgressBarIter T P → T
inner_of w = w.it

-- the record of seeks
abbrev pub wrapped_seeks : {T P : Type 0} → ProgressBarIter T P → Seeks
wrapped_seeks w = w.seeks

-- the answer of the last draw, if there was one
abbrev pub last_draw_of : {T P : Type 0} → ProgressBarIter T P → Option (Result Drawn Refusal)
last_draw_of w = w.last

-- it wraps this value, without a seek or a draw yet
abbrev pub Wraps : {T P : Type 0} → ProgressBarIter T P → T → Type 0
Wraps w it = (inner_of w ≡ it) × (wrapped_seeks w ≡ no_seeks) × (last_draw_of w ≡ None)

-- the bar, the record of seeks and the answer of the last draw are unchanged
abbrev pub SameBar : {T P : Type 0} → ProgressBarIter T P → ProgressBarIter T P → Type 0
SameBar s t = (t.progress ≡ s.progress) × (wrapped_seeks t ≡ wrapped_seeks s) × (last_draw_of t ≡ last_draw_of s)

-- ---- what becomes of the bar

-- over how a bar's position is read, and the states that a move with an answer leads to
module _ {T P : Type 0} (stands : P → Option Standing) (leads : P → Move → Result Drawn Refusal → P → Type 0) where
  -- the bar made one move, and its answer is kept
  pub record Moved (s : ProgressBarIter T P) (move : Move) (t : ProgressBarIter T P) : Type 0 where
    pub answer : Result Drawn Refusal
    pub led : leads s.progress move answer t.progress
    pub goes : Goes (stands s.progress) move answer (stands t.progress)
    pub last : last_draw_of t ≡ Some answer

  -- an item advances the bar by 1; the end finishes one that isn't finished, and changes nothing of one that is
  abbrev pub CountsItem : Bool → ProgressBarIter T P → ProgressBarIter T P → Type 0
  CountsItem true s t = Moved s (Advance 1) t × (wrapped_seeks t ≡ wrapped_seeks s)
  CountsItem false s t =
      (Moved s Finish t × (wrapped_seeks t ≡ wrapped_seeks s) × IfSome (stands s.progress) (λ bar. bar.finished ≡ false))
      ⊎ (SameBar s t × IfSome (stands s.progress) (λ bar. bar.finished ≡ true))

  -- the bar was placed after n more bytes
  pub record PlacesBar (s : ProgressBarIter T P) (n : ℕ) (t : ProgressBarIter T P) : Type 0 where
    pub position : ℕ
    pub place : ℕ
    pub here : IfSome (stands s.progress) (λ bar. position ≡ bar.position)
    pub by_seeks : (place, wrapped_seeks t) ≡ after_move 5 10 (wrapped_seeks s) position n
    pub moved : Moved s (Place place) t

  -- the bar was placed by a seek to a place
  pub record Sought (s : ProgressBarIter T P) (to : ℕ) (t : ProgressBarIter T P) : Type 0 where
    pub place : ℕ
    pub by_seeks : (place, wrapped_seeks t) ≡ after_seek 10 (wrapped_seeks s) to
    pub moved : Moved s (Place place) t

  -- a call of `next`: what the inner iterator gave, by what its calls may give, was handed on, and counted
  abbrev pub NextGives : {Item : Type 0} → (T → Option Item → T → Type 0) → ProgressBarIter T P → Option Item → ProgressBarIter T P → Type 0
  NextGives gives s r t = gives (inner_of s) r (inner_of t) × CountsItem (is_some r) s t

  -- an item of a stream advances the bar by 1; each end finishes it
  abbrev pub Polled : Bool → ProgressBarIter T P → ProgressBarIter T P → Type 0
  Polled true s t = Moved s (Advance 1) t × (wrapped_seeks t ≡ wrapped_seeks s)
  Polled false s t = Moved s Finish t × (wrapped_seeks t ≡ wrapped_seeks s)

  -- a polled read that is ready places the bar by the bytes it read; one that failed read none
  abbrev pub ReadPlaces : {E : Type 0} → ProgressBarIter T P → Poll (Result ℕ E) → ProgressBarIter T P → Type 0
  ReadPlaces s Pending t = SameBar s t
  ReadPlaces s (Ready (Ok n)) t = PlacesBar s n t
  ReadPlaces s (Ready (Err e)) t = PlacesBar s 0 t

  -- a polled write that is ready places the bar by the bytes it wrote
  abbrev pub WritePlaces : {E : Type 0} → ProgressBarIter T P → Poll (Result ℕ E) → ProgressBarIter T P → Type 0
  WritePlaces s Pending t = SameBar s t
  WritePlaces s (Ready (Ok n)) t = PlacesBar s n t
  WritePlaces s (Ready (Err e)) t = SameBar s t

-- a seek by 0 from the current place leaves the bar; any other moves it
abbrev pub SeekMovesBar : SeekFrom → Type 0 → Type 0 → Type 0
SeekMovesBar (Start k) same moved = moved
SeekMovesBar (End k) same moved = moved
SeekMovesBar (Current k) same moved = (k ≡ pos 0 → same) × (k ≢ pos 0 → moved)

-- ---- the end

-- once it has come to its end, it stays at its end
abbrev pub StaysAtItsEnd : {I A : Type 0} → (I → Option A → I → Type 0) → Type 0
StaysAtItsEnd {I} {A} gives = (s m t : I) (item : Option A) → gives s None m → gives m item t → item ≡ None
