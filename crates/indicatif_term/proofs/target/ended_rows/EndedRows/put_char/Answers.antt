use Rattle.std.proofs.Common.{◌≡◌, ◌≤◌, ◌∙◌, Some, [], ◌∷◌, true, false, Ok, refl, sym, ap, subst, arith}
use Rattle.std.specs.Prelude.{is_some}
use Rattle.unicode_width.specs.Width.{char_width}
use Rattle.indicatif_term.specs.Inside.EndedRows.{Within}
use Rattle.indicatif_term.proofs.EndedRowLemmas.{fall_fails, then_falls, from_weaker, to_weaker, adds, stands}
use Rattle.indicatif_term.proofs.EndedStepLemmas.{led_of, shown_width, too_wide, with_room_put}
use Rattle.indicatif_term.proofs.EndedCallLemmas.{chars_sent}
use Rattle.indicatif_term.proofs.EndedTextLemmas.{char_fits, char_bytes, scalars_one}
use Rattle.indicatif_term.proofs.target.ended_rows.EndedRows.put_char.Goals as goal

pub returns-then-wide-width : goal.returns-then-wide-width
returns-then-wide-width g c =
    let view = g.T.TermLike.view in
    stands view refl (λ s m x. subst (λ u. Within view c.args.self.now u m)
    (sym (too_wide c.args.c c.width-wide.result s (shown_width c.args.c x.1 ∙ ap (λ w. Some w) (sym c.width-wide.ensures)) (omega (arith, x.0.0.columns, c.width.ensures, c.if-wide-width.true)))) x.0)

pub returns-in_err-make_room : goal.returns-in_err-make_room
returns-in_err-make_room g c =
    let view = g.T.TermLike.view in
    let r = c.from_residual.result in
    from_weaker view r refl (λ s m x. x.0) (fall_fails view r c.from_residual.ensures.1 c.in_err-make_room.ensures)

pub returns : goal.returns
returns g c =
    let view = g.T.TermLike.view in
    let X = is_some (char_width false c.args.c) ≡ true in
    let r = c.send.result in
    let e = c.send.ensures.same in
    let fits : c.width-wide.result ≤ (view c.make_room.new.self.term).columns =
    omega (arith, c.width.ensures, c.if-wide-width.false, c.in_ok-make_room.ensures.carries.quiet.columns_are) in
    let led = led_of view (ap (λ o. o.row) e) (ap (λ o. o.faults) e) (ap (λ o. o.column) e ∙ c.saturating_add-self.ensures) (ap (λ o. o.place) e) in
    let sent = chars_sent view r (c.args.c ∷ []) c.width-wide.result (scalars_one c.args.c c.ranges.c.0) led (char_bytes view c.args.c _ _ r c.encode_utf8-text.ensures.value c.send.ensures.writes)
    (λ s m x. (x.0.0, (x.1, tt))) (λ s m x. char_fits view c.args.c c.width-wide.ensures fits x.0) in
    to_weaker view r (λ s m m' x y. subst (λ u. Within view c.send.new.self u m')
    (with_room_put c.args.c c.width-wide.result s (shown_width c.args.c x.1 ∙ ap (λ w. Some w) (sym c.width-wide.ensures))
    (omega (arith, x.0.0.columns, c.width.ensures, c.if-wide-width.false)) x.0.0.within) y)
    (then_falls view r (adds view X (Ok tt) c.in_ok-make_room.ensures) sent)
