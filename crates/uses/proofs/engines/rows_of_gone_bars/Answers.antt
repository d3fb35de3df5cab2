use Rattle.std.proofs.Common.{◌≡◌, ◌∙◌, ◌∷◌, [], Ok, map, true, arith}
use Rattle.std.specs.Prelude.{codes}
use Rattle.indicatif_term.specs.Engines.{engine_term}
use Rattle.indicatif_term.specs.Lines.{bar_lines}
use Rattle.indicatif_term.specs.Lists.{drawn, fate, kept_of, logged, opening_lists}
use Rattle.indicatif_term.specs.Screen.{blank_screen}
use Rattle.indicatif_term.specs.declared.engine.counts.Keep.TheVariants.{Behind}
use Rattle.uses.proofs.EngineLemmas.{both_behind, both_plain, end_read, first_below_plain, first_plain, lists_at_end, lists_of_both, lists_of_first, lists_of_second, logged_sound, name, second_plain, stands_kept, stands_led, stands_new, stands_read}
use Rattle.uses.proofs.engines.rows_of_gone_bars.Goals as goal

pub returns : goal.returns
returns c =
    let both = map bar_lines c.args.both.now in
    let first = map bar_lines c.args.first.now in
    let second = map bar_lines c.args.second.now in
    let opening = blank_screen 4 5 in
    let e = c.args.engine.now in
    let begun = stands_new 5 4 e c.requires.new.0 c.requires.new.1 (c.a_new_terminal_is_an_opening.ensures.shows 4 5 (omega arith)) in
    let l = lists_of_both both first second in
    let s = stands_led 5 4 opening_lists (λ w h. drawn w h true 0 both opening_lists) e c.draw.new.self (Ok c.in_ok-draw.field-0) begun c.in_ok-draw.ensures.counted
    (c.in_ok-draw.ensures.lists opening_lists begun.fits) (c.in_ok-draw.ensures.paints opening_lists begun.fits (rw c.requires.both both_plain)) in
    let kept = stands_kept 5 4 1 l c.draw.new.self c.keep-fate.new.self s c.keep-fate.ensures.terminal (c.keep-fate.ensures.lists l s.fits)
    (c.keep-fate.ensures.rests 5 4 l opening (engine_term c.draw.new.self).terminal s.rests) in
    let l2 = lists_of_first both first second in
    let s2 = stands_led 5 4 (kept_of 5 1 l) (λ w h. drawn w h true 0 first (kept_of 5 1 l)) c.keep-fate.new.self c.draw-2.new.self (Ok c.in_ok-draw-2.field-0) kept c.in_ok-draw-2.ensures.counted
    (c.in_ok-draw-2.ensures.lists (kept_of 5 1 l) kept.fits) (c.in_ok-draw-2.ensures.paints (kept_of 5 1 l) kept.fits (rw c.requires.first first_plain)) in
    let kept2 = stands_kept 5 4 2 l2 c.draw-2.new.self c.keep-passed.new.self s2 c.keep-passed.ensures.terminal (c.keep-passed.ensures.lists l2 s2.fits)
    (c.keep-passed.ensures.rests 5 4 l2 opening (engine_term c.draw-2.new.self).terminal s2.rests) in
    let l3 = lists_of_second both first second in
    let s3 = stands_led 5 4 (kept_of 5 2 l2) (λ w h. drawn w h true 0 second (kept_of 5 2 l2)) c.keep-passed.new.self c.draw-3.new.self (Ok c.in_ok-draw-3.field-0) kept2 c.in_ok-draw-3.ensures.counted
    (c.in_ok-draw-3.ensures.lists (kept_of 5 2 l2) kept2.fits) (c.in_ok-draw-3.ensures.paints (kept_of 5 2 l2) kept2.fits (rw c.requires.second second_plain)) in
    let s4 = stands_led 5 4 l3 (λ w h. logged w h true name first l3) c.draw-3.new.self c.log.new.self (Ok c.in_ok-log.field-0) s3 c.in_ok-log.ensures.counted
    (c.in_ok-log.ensures.lists l3 s3.fits) (c.in_ok-log.ensures.paints l3 s3.fits (rw c.requires.first first_below_plain)) in
    let read = stands_read 5 4 (lists_at_end both first second) c.log.new.self ([] ∷ codes "a.txt" ∷ [] ∷ [] ∷ codes "b" ∷ []) c.what_is_shown_is_read.ensures
    (logged_sound 5 4 true name first l3) (rw (c.requires.both, c.requires.first, c.requires.second) end_read) s4 in
    let behind : fate 1 l ≡ Behind = rw c.requires.both both_behind in
    (c.keep-fate.ensures.fate l s.fits ∙ behind, read.0, read.1)
