use Rattle.std.proofs.Common.{◌∙◌, false, inr, sym, arith}
use Rattle.std.proofs.Math.Logic.{∥∥₁_map}
use Rattle.indicatif_term.specs.Resizes.{recut_lists, settled_whole, resized_lists}
use Rattle.indicatif_term.specs.Engines.{engine_term}
use Rattle.indicatif_term.proofs.CountLemmas.{live_of}
use Rattle.indicatif_term.proofs.EngineResizeLemmas.{none_resized, others_resized, same_resized, fits_suits, suits_fits, where_made}
use Rattle.indicatif_term.proofs.engine.Engine.resize.Goals as goal

pub returns-then-self-clause-lists : goal.returns-then-self-clause-lists
returns-then-self-clause-lists g c = where_made c.resize_term.result _ (λ u l fits.
    let e = c.args.self.now in
    let v = g.T.TermLike.view (engine_term e) in
    let same = c.resize_term.ensures.same in
    let s = fits_suits e l fits in
    suits_fits c.resize_term.new.self l (resized_lists v.columns v.rows c.args.cols c.args.rows l) e.counts e.failed e.shown same.0 same.1 same.2
    (none_resized v.columns v.rows c.args.cols c.args.rows e.counts e.failed e.shown l (omega (arith, c.if-rows-eq0.false)) c.if-self.true s) s)

pub returns-then-has_size-clause-lists : goal.returns-then-has_size-clause-lists
returns-then-has_size-clause-lists g c = where_made c.resize_term-then-has_size.result _ (λ u l fits.
    let e = c.args.self.now in
    let v = g.T.TermLike.view (engine_term e) in
    let same = c.resize_term-then-has_size.ensures.same in
    suits_fits c.resize_term-then-has_size.new.self l (resized_lists v.columns v.rows c.args.cols c.args.rows l) e.counts e.failed e.shown same.0 same.1 same.2
    (same_resized v.columns v.rows c.args.cols c.args.rows l (sym c.has_size.ensures ∙ c.if-has_size.true)) (fits_suits e l fits))

pub returns-in_err-cut-clause-takes : goal.returns-in_err-cut-clause-takes
returns-in_err-cut-clause-takes g c = λ refused l fits.
    let e = c.args.self.now in
    let s = fits_suits e l fits in
    inr (omega (arith, s.counted.kept_is, live_of e.counts l s.counted, c.in_err-cut.ensures.memory.1))

pub remember-requires : goal.remember-requires
remember-requires g c =
    ∥∥₁_map c.args.self.now.some (λ x. (settled_whole c.args.cols c.args.rows (recut_lists c.args.cols x.0), c.in_ok-cut.ensures.suits x.0 x.1 c.if-self.false))

pub returns-clause-lists : goal.returns-clause-lists
returns-clause-lists g c = λ l fits.
    let e = c.args.self.now in
    let v = g.T.TermLike.view (engine_term e) in
    let r = c.remember.ensures.remembered in
    suits_fits c.remember.new.self (settled_whole c.args.cols c.args.rows (recut_lists c.args.cols l)) (resized_lists v.columns v.rows c.args.cols c.args.rows l)
    c.in_ok-cut.cut.counts false c.in_ok-cut.cut.shown
    r.0 r.1 r.2 (others_resized v.columns v.rows c.args.cols c.args.rows l (sym c.has_size.ensures ∙ c.if-has_size.false)) (c.in_ok-cut.ensures.suits l (fits_suits e l fits) c.if-self.false)
