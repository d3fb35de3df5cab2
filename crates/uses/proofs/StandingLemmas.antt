-- What stands above once a name was logged, whatever is done then and whatever fails.
use Rattle.std.proofs.Common.{◌≡◌, ℕ, ◌+◌, arith, Bool, List, [], ◌∷◌, ◌++◌, length, map, take, drop, replicate, flat_map, refl, sym, ◌∙◌, ap, subst, append_assoc, append-nil, Option, Some, None, false}
use Rattle.std.specs.List.{list_any, take-map}
use Rattle.std.specs.Str.{chars}
use Rattle.std.proofs.Math.Seq.{take-append_seam, take-length}
use Rattle.std.proofs.Math.Utf8.{encode}
use Rattle.std.proofs.lemmas.List.{map-append, length-map, take-append-drop}
use Rattle.unicode_width.specs.Width.{char_width}
use Rattle.unicode_width.proofs.Computing.{unicode_width}
use Rattle.indicatif_text.specs.Columns.{Cell, rows_of, visible, has_wide}
use Rattle.indicatif_text.specs.declared.refusal.Drawn.{Drawn}
use Rattle.indicatif_term.specs.Calls.{TermView}
use Rattle.indicatif_term.specs.Engines.{Paints}
use Rattle.indicatif_term.specs.Lines.{text_lines, logged_lines}
use Rattle.indicatif_term.specs.Lists.{Lists, BarLines, all_rows, live_rows, drawn, logged, cleared, shown_rows, lines_of, fitting, grouped}
use Rattle.indicatif_term.specs.Pictures.{row_text, picture_text}
use Rattle.indicatif_term.specs.Screen.{Screen}
use Rattle.indicatif_term.specs.Shows.{Placed, RowsStay, safe_rows}
use Rattle.indicatif_term.specs.Terminal.{Terminal, after}
use Rattle.indicatif_bar.specs.Commands.{BarRecord}
use Rattle.indicatif_bar.specs.Machines.{Machine, Leads, drawn_by}
use Rattle.indicatif_bar.specs.Runs.{Runs, AllPlain, Headline, broke}
use Rattle.indicatif_bar.specs.Trackers.{Tracking}
use Rattle.indicatif_board.specs.Boards.{BoardState, Drew, Log, opening_board}
use Rattle.uses.specs.Readings.{BeginAs}
use Rattle.uses.proofs.LogLemmas.{Front}
use Rattle.uses.proofs.PlainLemmas.{first_name, small, machine, log_done, log_made}

-- the headline of a run, on a terminal that is known to be this one
pub headline_on : {S C A : Type 0} (m : Machine S C A) (calls : List (C × ℕ)) (answers : List A) (v : TermView) (old : Option TermView) (s : S) (new : Option TermView) (next : S)
    (run : Runs m calls answers old s new next) → old ≡ Some v → Headline m calls answers old s new next run → AllPlain m calls answers old s new next run →
    (v' : TermView) × (new ≡ Some v') × Paints v v' (list_any (broke m) answers) (m.lists s) (m.lists next)
headline_on m calls answers v None s new next run told head plain = absurd (cc)
headline_on m calls answers v (Some w) s new next run told head plain =
    let same : w ≡ v = cc in
    (head.0, head.1, subst (λ u. Paints u head.0 (list_any (broke m) answers) (m.lists s) (m.lists next)) same (head.2 plain))

-- rows above that a new terminal shows stay, after each byte of what is painted
pub above_stays_at : (v v' : TermView) (broken : Bool) (l l' : Lists) (p : Paints v v' broken l l') (t : Terminal) → Placed v.columns v.rows l t × (safe_rows l t ≡ 0 + length l.above) → (k : ℕ) →
    take (length l.above) (after t (take k p.bytes)).screen.rows ≡ take (length l.above) t.screen.rows
above_stays_at v v' broken l l' p t placed k =
    let safe : safe_rows l t ≡ length l.above = omega (arith, placed.1) in
    subst (λ n. RowsStay n t p.bytes) safe (p.stays t placed.0) k

-- and behind the last
pub above_stays : (v v' : TermView) (broken : Bool) (l l' : Lists) (p : Paints v v' broken l l') (t : Terminal) → Placed v.columns v.rows l t × (safe_rows l t ≡ 0 + length l.above) →
    take (length l.above) (after t p.bytes).screen.rows ≡ take (length l.above) t.screen.rows
above_stays v v' broken l l' p t placed =
    ap (λ xs. take (length l.above) (after t xs).screen.rows) (sym (take-length p.bytes)) ∙ above_stays_at v v' broken l l' p t placed (length p.bytes)

-- a log leaves no failed lists
pub logged_sound : (w h : ℕ) (bottom : Bool) (text : List (List ℕ)) (frame : List BarLines) (l : Lists) → (logged w h bottom text frame l).failed ≡ false
unfolding logged drawn
logged_sound w h bottom text frame l = refl

-- its rows
abbrev pub rows_of_first : ℕ → List (List Cell)
rows_of_first w = flat_map (rows_of w) (text_lines (logged_lines first_name))

-- they read so
pub first_row : map row_text (rows_of_first 10) ≡ first_name ∷ []
unfolding char_width unicode_width rows_of visible chars encode
first_row = refl

-- on a new board they are all that stands above
pub first_above : {K : Type 0} (m : Tracking K) (x : BoardState (BarRecord K)) (one : Drawn) →
    Leads (machine m) small (opening_board None) ((machine m).deed small (Log first_name) 0 (opening_board None)) (Drew one) x →
    Front (rows_of_first 10) x.lists.above × (x.lists.failed ≡ false)
unfolding char_width unicode_width rows_of visible has_wide drawn logged cleared shown_rows lines_of fitting grouped chars encode drawn_by
first_above m x one led =
    let made : x ≡ (log_done m first_name (opening_board None)).1 = ap (λ o. o.1) (log_made m first_name (opening_board None) x one led) in
    (([], ap (λ y. y.lists.above) made ∙ sym (append-nil (rows_of_first 10))), ap (λ y. y.lists.failed) made)

-- rows that stay are read first, where they were read first
pub first_read : (s old : Screen) (front : List (List Cell)) (w : ℕ) (l : Lists) (blank : ℕ) → Front front l.above → take (length l.above) s.rows ≡ take (length l.above) old.rows →
    picture_text old ≡ map row_text (all_rows w l) ++ replicate blank [] → BeginAs (picture_text s) front
first_read s old front w l blank first stay read =
    let n = length l.above in
    let below = l.kept ++ live_rows w l.live in
    let texts = map row_text l.above in
    let halves : all_rows w l ≡ l.above ++ below = append_assoc l.above l.kept (live_rows w l.live) in
    let then : picture_text old ≡ texts ++ (map row_text below ++ replicate blank []) =
    read ∙ ap (λ xs. map row_text xs ++ replicate blank []) halves ∙ ap (λ xs. xs ++ replicate blank []) (map-append row_text l.above below)
    ∙ append_assoc texts (map row_text below) (replicate blank []) in
    let cut : take n (picture_text s) ≡ texts =
    take-map row_text n s.rows ∙ ap (map row_text) stay ∙ sym (take-map row_text n old.rows) ∙ ap (take n) then
    ∙ ap (λ k. take k (texts ++ (map row_text below ++ replicate blank []))) (sym (length-map l.above row_text)) ∙ take-append_seam texts (map row_text below ++ replicate blank []) in (
      map row_text first.0 ++ drop n (picture_text s),
      sym (take-append-drop n (picture_text s)) ∙ ap (λ xs. xs ++ drop n (picture_text s)) (cut ∙ ap (map row_text) first.1 ∙ map-append row_text front first.0)
          ∙ append_assoc (map row_text front) (map row_text first.0) (drop n (picture_text s)),
    )
