-- What a blank terminal shows after bytes.
use Rattle.std.specs.Prelude.{◌≡◌, ℕ, ◌-◌, ◌≤◌, min, List, [], ◌∷◌, ◌++◌}
use Rattle.indicatif_term.specs.Screen.{Screen, IsWhole, Up, Down, Right, Left, performed, top}
use Rattle.indicatif_term.specs.Terminal.{Terminal, GREATEST, after, blank_terminal}
use Rattle.indicatif_term.specs.Pictures.{contents_text, picture_text}

abbrev pub ESC : List ℕ
ESC = 0x1B ∷ []

abbrev pub contents_after : ℕ → ℕ → List ℕ → List ℕ
contents_after rows columns bytes = contents_text (after (blank_terminal rows columns) bytes).screen

abbrev pub picture_after : ℕ → ℕ → List ℕ → List (List ℕ)
picture_after rows columns bytes = picture_text (after (blank_terminal rows columns) bytes).screen

abbrev pub cursor_after : ℕ → ℕ → List ℕ → ℕ × ℕ
cursor_after rows columns bytes = let s = (after (blank_terminal rows columns) bytes).screen in (s.row - top s, s.column)

-- a move by more than the maximum size equals one by that size, on a terminal that is no larger
pub record FarMovesAgree (s : Screen) (n : ℕ) : Type 0 where
  pub up : performed (Up n) s ≡ performed (Up (min n GREATEST)) s
  pub down : performed (Down n) s ≡ performed (Down (min n GREATEST)) s
  pub right : performed (Right n) s ≡ performed (Right (min n GREATEST)) s
  pub left : performed (Left n) s ≡ performed (Left (min n GREATEST)) s

abbrev pub FarMoves : Type 0
FarMoves = (s : Screen) (n : ℕ) → IsWhole s → s.height ≤ GREATEST → s.columns ≤ GREATEST → FarMovesAgree s n

-- bytes that are cut in two, at any place, lead to the same terminal
abbrev pub AnyCut : Type 0
AnyCut = (t : Terminal) (front rest : List ℕ) → after t (front ++ rest) ≡ after (after t front) rest
