-- Tabs in a text, and the spaces that replace them. Texts are lists of bytes in UTF-8.
use Rattle.std.specs.Prelude.{◌≡◌, ℕ, Bool, true, false, ◌==◌, List, [], ◌∷◌, replicate, flat_map, if◌then◌else◌}
use Rattle.std.specs.List.{list_any}

-- the text has a tab
abbrev pub has_tab : List ℕ → Bool
has_tab = list_any (λ b. b == 0x09)

-- the text has a character
abbrev pub is_some_text : List ℕ → Bool
is_some_text [] = false
is_some_text (b ∷ text) = true

-- the text with `tab` spaces in place of each tab
abbrev pub expanded : ℕ → List ℕ → List ℕ
expanded tab text = flat_map (λ b. if b == 0x09 then replicate tab 0x20 else b ∷ []) text

-- no tab is left in an expanded text
abbrev pub TabsAreGone : Type 0
TabsAreGone = (tab : ℕ) (text : List ℕ) → has_tab (expanded tab text) ≡ false

-- a text without tabs is unchanged, whatever the tab width
abbrev pub OthersStay : Type 0
OthersStay = (tab : ℕ) (text : List ℕ) → has_tab text ≡ false → expanded tab text ≡ text

-- a text and its tab width
pub record TabbedText : Type 0 where
  pub text : List ℕ
  pub tab : ℕ
