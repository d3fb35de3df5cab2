-- The meaning of trackers. Texts are lists of bytes in UTF-8.
use Rattle.std.specs.Prelude.{ℕ, List, [], ◌∷◌, map, string_bytes, String}
use Rattle.std.specs.declared.alloc.Global.{Global}
use Rattle.indicatif_bar.specs.Progress.{Progress}

-- the meaning of a type of trackers: the text of one at a moment, and how a tick and a reset change it
pub record Tracking (K : Type 0) : Type 0 where
  pub text : K → Progress → ℕ → List ℕ
  pub ticked : K → Progress → ℕ → K
  pub was_reset : K → Progress → ℕ → K

-- a step of a tracker: its bar ticked or was reset, and is in this state at this moment
pub data TrackerStep : Type 0 where
  Ticked : (state : Progress) → (now : ℕ) → TrackerStep
  WasReset : (state : Progress) → (now : ℕ) → TrackerStep

-- a tracker after these steps
abbrev pub tracker_after : {K : Type 0} → Tracking K → K → List TrackerStep → K
tracker_after m k [] = k
tracker_after m k (Ticked state now ∷ steps) = tracker_after m (m.ticked k state now) steps
tracker_after m k (WasReset state now ∷ steps) = tracker_after m (m.was_reset k state now) steps

-- trackers that never change, with this text
abbrev pub telling : {K : Type 0} → (K → Progress → ℕ → List ℕ) → Tracking K
telling text = record { text = text; ticked = λ k p now. k; was_reset = λ k p now. k }

-- trackers that never change and write nothing
abbrev pub writes_nothing : {K : Type 0} → Tracking K
writes_nothing = telling (λ k p now. [])

-- trackers by their names, as texts
abbrev pub entries : {K : Type 0} → List (String Global × K) → List (List ℕ × K)
entries = map (λ entry. (string_bytes entry.0, entry.1))

-- the entries with each tracker changed
abbrev pub changed_trackers : {K : Type 0} → (K → K) → List (List ℕ × K) → List (List ℕ × K)
changed_trackers change = map (λ entry. (entry.0, change entry.1))
