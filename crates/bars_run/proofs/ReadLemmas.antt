-- Lines as they are read of an input, and played.
use Rattle.std.proofs.Common.{◌≡◌, ℕ, suc, ◌+◌, ◌-◌, ◌^◌, ◌<◌, ◌⊎◌, inl, inr, arith, add-one, length-append, min, List, [], ◌∷◌, ◌++◌, length, refl, sym, ◌∙◌, ap, subst, append_assoc, append-nil, Option, Some, None, Result, Ok}
use Rattle.std.specs.Prelude.{IfSome}
use Rattle.std.specs.Io.BufRead.{DropsThrough, drop_through, first_piece}
use Rattle.std.specs.Io.Iter.{YieldsKnownPiece}
use Rattle.std.specs.Io.KnownBytes.{IsAtEnd, prepend_known}
use Rattle.indicatif_text.specs.declared.refusal.Refusal.TheVariants.{Memory}
use Rattle.bars_run.specs.declared.arguments.Asked.{Asked}
use Rattle.bars_run.specs.declared.fault.Fault.{Fault}
use Rattle.bars_run.specs.declared.fault.Fault.TheVariants.{Usage, BadCommand, Line, Refused, Input, Output}
use Rattle.bars_run.specs.Arguments.{HasCells}
use Rattle.bars_run.specs.Commands.{Spelled, input_lines, spelled}
use Rattle.bars_run.specs.Inside.Players.{Played, Obeys, HasPlayed, LineEnds}
use Rattle.bars_run.specs.Printing.{IsInputLine, EndsOn}
use Rattle.bars_run.proofs.LineLemmas.{next_line}
use Rattle.bars_run.proofs.PlayLemmas.{one_more}

-- this number of lines from the front was played, and these bytes are known to be left of the input
pub record Reads (asked : Asked) (number : ℕ) (bytes : List ℕ) (known : Option (List ℕ)) (byte : ℕ) (b : Played) : Type 0 where
  pub left : List ℕ
  pub known_is : known ≡ Some left
  pub byte_is : byte ≡ 0x0A
  pub lines : List (List ℕ)
  pub number_is : number ≡ min (length lines) (2 ^ 64 - 1)
  pub all : input_lines bytes ≡ lines ++ input_lines left
  pub played : HasPlayed asked lines b

pub reads_first : (asked : Asked) (o known : Option (List ℕ)) (byte : ℕ) (b : Played) → known ≡ o → byte ≡ 0x0A → HasPlayed asked [] b → IfSome o (λ bytes. Reads asked 0 bytes known byte b)
reads_first asked None known byte b e f p = tt
reads_first asked (Some bytes) known byte b e f p = record { left = bytes; known_is = e; byte_is = f; lines = []; number_is = omega arith; all = refl; played = p }

next_number : (number n number' : ℕ) → number ≡ min n (2 ^ 64 - 1) → number' ≡ min (number + 1) (2 ^ 64 - 1) → number' ≡ min (suc n) (2 ^ 64 - 1)
next_number number n number' e f = omega (arith, e, f)

module _ {X E : Type 0} (f : X → List ℕ) (asked : Asked) (o known known' : Option (List ℕ)) (byte byte' : ℕ) (r : Option (Result X E))
    (gives : YieldsKnownPiece f (first_piece byte) byte known r known') (number number' : ℕ) (counted : number' ≡ min (number + 1) (2 ^ 64 - 1)) where
  -- the line that was read, with all lines before it
  is_input_line : (bytes : List ℕ) (b : Played) (x : X) → Reads asked number bytes known byte b → r ≡ Some (Ok x) →
      IsInputLine bytes number' (f x)
  is_input_line bytes b x p is =
      let given = subst (λ y. YieldsKnownPiece f (first_piece byte) byte known y known') is gives in
      let some = subst (λ k. IfSome k (λ xs. (0 < length xs) × (f x ≡ first_piece byte xs))) p.known_is given.0 in
      let line : f x ≡ first_piece 0x0A p.left = some.1 ∙ ap (λ n. first_piece n p.left) p.byte_is in
      let rest = drop_through 0x0A p.left in
      record {
        before = p.lines;
        behind = input_lines rest;
        lines_are = p.all ∙ ap (λ ls. p.lines ++ ls) (next_line p.left some.0 ∙ ap (λ l. l ∷ input_lines rest) (sym line));
        number_is = next_number number (length p.lines) number' p.number_is counted;
        commands = p.played.commands;
        commands_are = p.played.commands_are;
      }

  pub reads_next : (old new : Played) (x : X) (command : Spelled) → IfSome o (λ bytes. Reads asked number bytes known byte old) → r ≡ Some (Ok x) → byte' ≡ byte → spelled (f x) ≡ Some command →
      Obeys command old new → IfSome o (λ bytes. Reads asked number' bytes known' byte' new)
  unfolding is_input_line
  reads_next old new x command reads is same spells obeys =
      elim o as (λ y. IfSome y (λ bytes. Reads asked number bytes known byte old) → IfSome y (λ bytes. Reads asked number' bytes known' byte' new)) [
        | None ↦ λ p. tt
        | Some bytes ↦ λ p.
            let given = subst (λ y. YieldsKnownPiece f (first_piece byte) byte known y known') is gives in
            let drops = subst (λ k. DropsThrough k known' byte) p.known_is given.1 in
            let rest = drop_through 0x0A p.left in
            record {
              left = rest;
              known_is = drops ∙ ap (λ n. Some (drop_through n p.left)) p.byte_is;
              byte_is = same ∙ p.byte_is;
              lines = p.lines ++ f x ∷ [];
              number_is = next_number number (length p.lines) number' p.number_is counted ∙ ap (λ n. min n (2 ^ 64 - 1)) (sym (length-append p.lines (f x ∷ []) ∙ add-one (length p.lines)));
              all = (is_input_line bytes old x p is).lines_are ∙ sym (append_assoc p.lines (f x ∷ []) (input_lines rest));
              played = one_more asked p.lines (f x) command old new p.played spells obeys;
            }
      ] reads

  -- why a run ends at a line that wasn't played
  pub line_ends : (b : Played) (x : X) (fault : Fault) → HasCells asked.size → IfSome o (λ bytes. Reads asked number bytes known byte b) → r ≡ Some (Ok x) → LineEnds number' (f x) fault →
      EndsOn asked o fault
  line_ends b x Usage cells reads is ends = ends
  line_ends b x (Refused e) cells reads is ends = absurd ends
  line_ends b x Input cells reads is ends = absurd ends
  line_ends b x Output cells reads is ends = absurd ends
  line_ends b x (BadCommand n) cells reads is ends = (
    cells,
    elim o as (λ y. IfSome y (λ bytes. Reads asked number bytes known byte b) → IfSome y (λ bytes. (line : List ℕ) × IsInputLine bytes n line × (spelled line ≡ None))) [
      | None ↦ λ p. tt
      | Some bytes ↦ λ p. (f x, subst (λ k. IsInputLine bytes k (f x)) (sym ends.0) (is_input_line bytes b x p is), ends.1)
    ] reads,
  )
  line_ends b x (Line n e) cells reads is ends = (
    cells,
    inr
        (elim o as (λ y. IfSome y (λ bytes. Reads asked number bytes known byte b) →
        IfSome y (λ bytes. (line : List ℕ) × IsInputLine bytes n line × (command : Spelled) × (spelled line ≡ Some command))) [
          | None ↦ λ p. tt
          | Some bytes ↦ λ p. (f x, subst (λ k. IsInputLine bytes k (f x)) (sym ends.0) (is_input_line bytes b x p is), ends.1, ends.2)
        ] reads),
  )

  pub reads_last : (b : Played) → IfSome o (λ bytes. Reads asked number bytes known byte b) → r ≡ None → IfSome o (λ bytes. HasPlayed asked (input_lines bytes) b)
  reads_last b reads is = elim o as (λ y. IfSome y (λ bytes. Reads asked number bytes known byte b) → IfSome y (λ bytes. HasPlayed asked (input_lines bytes) b)) [
    | None ↦ λ p. tt
    | Some bytes ↦ λ p.
        let at_end = subst (λ y. YieldsKnownPiece f (first_piece byte) byte known y known') is gives in
        let none : p.left ≡ [] = subst IsAtEnd p.known_is at_end in
        let all : input_lines bytes ≡ p.lines = p.all ∙ ap (λ xs. p.lines ++ input_lines xs) none ∙ append-nil p.lines in
        subst (λ ls. HasPlayed asked ls b) (sym all) p.played
  ] reads

pub nothing_ahead : (o : Option (List ℕ)) → prepend_known [] o ≡ o
nothing_ahead None = refl
nothing_ahead (Some xs) = refl

-- a line that couldn't be read found no room, or the input failed
pub unread_ends : (asked : Asked) (o : Option (List ℕ)) (fault : Fault) (number : ℕ) → HasCells asked.size → (fault ≡ Line number Memory) ⊎ (fault ≡ Input) → EndsOn asked o fault
unread_ends asked o fault number cells why = elim why [
  | inl e ↦ subst (EndsOn asked o) (sym e) (cells, inl refl)
  | inr e ↦ subst (EndsOn asked o) (sym e) cells
]
