use Rattle.std.proofs.Common.{inl, inr, ◌-◌, ℕ, ◌∙◌, refl, ap, arith, length, drop}
use Rattle.std.proofs.lemmas.List.{take_all, length-drop}
use Rattle.indicatif_term.specs.Inside.Changing.{free_behind}
use Rattle.indicatif_term.specs.Inside.Fills.{last_of}
use Rattle.indicatif_term.specs.Standing.{placed}
use Rattle.indicatif_term.specs.declared.engine.writing.Manner.TheVariants.{Among}
use Rattle.indicatif_term.specs.declared.engine.writing.Writing.{Writing}
use Rattle.indicatif_term.proofs.SkippingLemmas.{some_is}
use Rattle.indicatif_term.proofs.engine.Before.chosen.Goals as goal

pub returns-then-can_move : goal.returns-then-can_move
returns-then-can_move c = inl (c.can_move.ensures c.if-can_move.true, record { fresh = c.none-writing.result; none = c.none-writing.ensures; is = refl })

pub returns-in-Some : goal.returns-in-Some
returns-in-Some c =
    let ls = c.args.lines.now in
    let room = c.in-Some.room in
    let has = some_is c.room_for.result room _ c.in-Some.is c.room_for.ensures in
    let set : ℕ → Writing = λ k. record c.args.whole { fresh = c.none-writing-in-Some.result; taken = room.free; manner = Among room.lines; fill = k } in
    let lower = take_all (length ls - room.lines) (drop room.lines ls) (omega (arith, length-drop room.lines ls)) in
    inr (inl (
      room,
      has.0,
      has.1,
      record {
        fresh = c.none-writing-in-Some.result;
        none = c.none-writing-in-Some.ensures;
        is = ap set (c.fill_behind.ensures ∙ ap (λ xs. free_behind c.args.whole.width (last_of (placed xs))) lower);
      },
    ))
