use Rattle.std.proofs.Common.{◌≡◌, ◌++◌, ◌-◌, ◌<◌, ◌≤◌, ◌∙◌, [], max, sym, ap, subst, arith, chars, length, map, refl, if◌then◌else◌}
use Rattle.std.specs.Prelude.{IsTrue, string_bytes}
use Rattle.std.specs.List.{AllByRecursion}
use Rattle.indicatif_text.specs.Columns.{visible}
use Rattle.indicatif_term.specs.Inside.RowEdits.{IsNarrowChar}
use Rattle.indicatif_term.specs.Inside.Inks.{IsRead, NONE, in_colours, painted, padded}
use Rattle.indicatif_term.specs.Inside.Parting.{tail, cells_at}
use Rattle.indicatif_term.specs.Inside.Rests.{ArePlain}
use Rattle.indicatif_term.proofs.EditPlanLemmas.{plan_repaints}
use Rattle.indicatif_term.proofs.InkLemmas.{read_painted, read_length, read_whole, painted_front, padded_length}
use Rattle.indicatif_term.proofs.PartingLemmas.{parted, room_left, narrow_behind}
use Rattle.indicatif_term.proofs.engine.comparing.parting.Goals as goal
use Rattle.indicatif_term.proofs.engine.comparing.parting.Goals.{then-waits, else-waits, else-waits-2-via-then-waits-2+else-left-eq0, else-waits-2-via-else-waits-2}

pub returns-clause-parted : goal.returns-clause-parted
returns-clause-parted c =
    let w = c.args.width in
    let ends = c.args.waits in
    let last = c.args.line.now.last in
    let old = string_bytes c.args.line.now.text in
    let new = c.args.text.now in
    let p = c.split-parts.result in
    let d : ArePlain old new p = subst (λ x. ArePlain x new p) c.deref-2.ensures c.split-parts.ensures in
    let front = chars p.front.now in
    let from = length p.front.now in
    let own = tail from old in
    let other = tail from new in
    let m = c.in_ok-olds.olds in
    let k = c.in_ok-news.news in
    let gap = last - m in
    let n = c.if-waits.left in
    let row : c.args.line.now.rows ≡ 1 = omega arith in
    let within : m ≤ last = c.if-olds-line.false in
    let in_row : last ≤ w = c.if-line-width.false in
    let old_is : chars old ≡ front ++ own = d.old_is ∙ ap (λ x. front ++ x) d.own_is in
    let new_is : chars new ≡ front ++ other = d.new_is ∙ ap (λ x. front ++ x) d.other_is in
    let old_read : IsRead own = subst IsRead d.own_is c.in_ok-olds.ensures.read in
    let new_read : IsRead other = subst IsRead d.other_is c.in_ok-news.ensures.read in
    let olds : m ≡ length (visible own) = omega (arith, c.in_ok-olds.ensures.count, ap (λ cs. length (visible cs)) d.own_is) in
    let news : k ≡ length (visible other) = omega (arith, c.in_ok-news.ensures.count, ap (λ cs. length (visible cs)) d.other_is) in
    let left : n ≡ (if ends then (w - gap) else max m k) = elim c.if-waits.branch [
      | then-waits b ↦ rw b.if-waits.true b.left-is
      | else-waits b ↦ rw b.if-waits.false (b.left-is ∙ b.max-left.ensures)
    ] in
    let some : IsTrue ends → 0 < n = elim c.else-waits-2.branch [
      | else-waits-2-via-then-waits-2+else-left-eq0 b ↦ λ e. let other : n ≡ 0 → ⊥ = b.if-left-eq0.false in omega arith
      | else-waits-2-via-else-waits-2 b ↦ λ e. absurd (cc (e, b.if-waits-2.false))
    ] in
    let room = room_left ends m k gap w n left (omega arith) (omega arith) in
    let t = parted w last m k n (chars old) (chars new) front own other d.plain old_is new_is old_read.single new_read.single (sym c.requires.line.rows_are ∙ row) c.requires.line.last_is
    olds news (omega arith) room.0 room.1 room.2 in
    let os = cells_at from old in
    let ns = cells_at from new in
    let a : length (padded n os) ≡ n = padded_length n os (omega (arith, read_length NONE own, olds, room.0)) in
    let b : length (padded n ns) ≡ n = padded_length n ns (omega (arith, read_length NONE other, news, room.1)) in
    let shown = plan_repaints ends NONE (padded n os) (padded n ns) (a ∙ sym b) in
    record {
      waits_is = refl;
      own = d.own;
      other = d.other;
      tails = t.0;
      olds_are = t.1;
      news_are = t.2;
      narrow = subst (AllByRecursion IsNarrowChar) (sym t.2) (narrow_behind new front other c.utf8.text new_is new_read.single);
      to_end = λ e. (room.3 e, some e);
      last_is = omega (arith, news);
      read = subst IsRead (sym d.new_is) (read_whole front (chars p.other.now) d.plain c.in_ok-olds.ensures.front c.in_ok-news.ensures.read);
      colours = record {
        front = front;
        old_is = ap painted old_is ∙ painted_front front own d.plain ∙ ap (λ x. map (in_colours []) front ++ x) (sym (read_painted own old_read).0);
        new_is = ap painted new_is ∙ painted_front front other d.plain ∙ ap (λ x. map (in_colours []) front ++ x) (sym (read_painted other new_read).0);
        cells = shown.0;
        none_open = shown.1;
      };
    }
