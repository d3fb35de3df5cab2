-- A record of a log as lines.
use Rattle.std.specs.Prelude.{◌≡◌, ℕ, ◌==◌, List, [], ◌∷◌, ◌++◌, flat_map, Option, option_map, IfSome, if◌then◌else◌}
use Rattle.std.specs.Fmt.{◌++?◌}
use Rattle.log.specs.declared.level.Level.{Level}
use Rattle.log.specs.declared.record.Record.{Record}
use Rattle.log.specs.Kv.{Pair}
use Rattle.log.specs.Line.{scope_text, pairs_text}
use Rattle.log.specs.Record.{metadata_level, record_metadata, record_args, record_key_values, record_spans}
use Rattle.log.specs.Span.{Scope}
use Rattle.indicatif_board.specs.Bridge.{bridge_bytes, level_column}

module _ {D V S : Type 0} where
  abbrev pub record_level : Record D V S → Level
  record_level r = metadata_level (record_metadata r)

  -- the spans from the outermost in, the message and the pairs, where each of them tells its text
  abbrev pub record_text : (D → Option (List ℕ)) → (V → Option (List Pair)) → (S → Option (List Scope)) → Record D V S → Option (List ℕ)
  record_text output pairs scopes r =
      option_map (flat_map scope_text) (scopes (record_spans r)) ++? output (record_args r) ++? option_map pairs_text (pairs (record_key_values r))

-- these lines are what a form lays out at this level for a text, where both are told
abbrev pub AreLinesOf : (Level → List ℕ → Option (List ℕ)) → Level → Option (List ℕ) → List ℕ → Type 0
AreLinesOf lays level text lines = IfSome text (λ t. IfSome (lays level t) (λ laid. lines ≡ laid))

-- a line of this level; the level also stands behind each line feed of the text
abbrev pub each_line : Level → List ℕ → List ℕ
each_line level text = bridge_bytes level (flat_map (λ b. if b == 0x0a then 0x0a ∷ level_column level ++ 0x20 ∷ [] else b ∷ []) text)
