-- Steps of a call whose rows the program ends: one after another, and a failure handed on.
use Rattle.std.proofs.Common.{◌≡◌, ◌∙◌, ℕ, ◌≤◌, List, [], ◌++◌, Result, Ok, Err, refl, sym, ap, subst, arith}
use Rattle.std.specs.Prelude.{IsErrAnd, IsTrue}
use Rattle.std.specs.declared.io.Error.{Error}
use Rattle.std.proofs.lemmas.Bool.{false≢true}
use Rattle.indicatif_term.specs.Screen.{Screen}
use Rattle.indicatif_term.specs.Calls.{TermView, Writes, led_on}
use Rattle.indicatif_term.specs.OwnRows.{Quietly}
use Rattle.indicatif_term.specs.Modes.{ModeTerminal, mode_after}
use Rattle.indicatif_term.specs.Inside.EndedRows.{StayAlong, LeadsBoth, Falls}
use Rattle.indicatif_term.specs.declared.target.ended_rows.EndedRows.{EndedRows}
use Rattle.indicatif_term.proofs.CallTurnLemmas.{told_then, led_on-nil}
use Rattle.indicatif_term.proofs.OwnRowsLemmas.{unmoved, fails, goes_on}
use Rattle.indicatif_term.proofs.ModeLemmas.{mode_after-append, stay_both, stay_front}

-- what bytes that are written do to the size and the faults
pub quietly : (bytes : List ℕ) (u v : TermView) (r : Result Unit Error) → Writes bytes u v r → Quietly u v r
quietly bytes u v (Ok x) w = record { columns_are = w.columns_are; rows_are = w.rows_are; faults_are = w.faults_are; kind_is = w.kind_is }
quietly bytes u v (Err e) w = record { columns_are = w.columns_are; rows_are = w.rows_are; faults_are = w.faults_are; kind_is = w.kind_is }

-- what a step does to the two terminals whose bytes are written whole
pub record Steps {T : Type 0} (P Q : EndedRows T → Screen → ModeTerminal → Type 0) (f : Screen → Screen) (own own' : EndedRows T) (bytes : List ℕ) : Type 0 where
  pub stays : (s : Screen) (m : ModeTerminal) → P own s m → (n : ℕ) → n ≤ m.terminal.screen.row → StayAlong n m bytes
  pub level : (s : Screen) (m : ModeTerminal) → P own s m → m.terminal.screen.row ≤ (mode_after m bytes).terminal.screen.row
  pub leads : (s : Screen) (m : ModeTerminal) → P own s m → Q own' (f s) (mode_after m bytes)

module _ {T : Type 0} (view : T → TermView) where
  -- a step that writes nothing
  pub stands : {P Q : EndedRows T → Screen → ModeTerminal → Type 0} {f : Screen → Screen} {own own' : EndedRows T} → view own'.term ≡ view own.term →
      ((s : Screen) (m : ModeTerminal) → P own s m → Q own' (f s) m) → Falls view P Q f own own' (Ok tt)
  stands {own = own} {own' = own'} e h = record {
    carries = record {
      quiet = subst (λ v. Quietly (view own.term) v (Ok tt)) (sym e) (unmoved (view own.term));
      bytes = [];
      told_is = λ x. ap (λ v. v.told) e ∙ sym (led_on-nil (view own.term).told);
      stays = λ s m x n low. tt;
      leads = λ ok s m x. h s m x;
    };
    level = λ ok s m x. omega arith;
  }

  module _ {P Q R : EndedRows T → Screen → ModeTerminal → Type 0} {f g : Screen → Screen} {a b c : EndedRows T} (r : Result Unit Error) where
    pub then_carries : Falls view P Q f a b (Ok tt) → LeadsBoth view Q R g b c r → LeadsBoth view P R (λ s. g (f s)) a c r
    then_carries p q =
        let first = p.carries in
        record {
          quiet = goes_on r first.quiet q.quiet;
          bytes = first.bytes ++ q.bytes;
          told_is = told_then first.bytes q.bytes (view a.term).told (view b.term).told (view c.term).told first.told_is q.told_is;
          stays = λ s m x n low. stay_both n m first.bytes q.bytes (first.stays s m x n low)
              (q.stays (f s) (mode_after m first.bytes) (first.leads refl s m x) n (omega (arith, p.level refl s m x, low)));
          leads = λ ok s m x. subst (R c (g (f s))) (sym (mode_after-append m first.bytes q.bytes)) (q.leads ok (f s) (mode_after m first.bytes) (first.leads refl s m x));
        }

    pub then_falls : Falls view P Q f a b (Ok tt) → Falls view Q R g b c r → Falls view P R (λ s. g (f s)) a c r
    unfolding then_carries
    then_falls p q =
        let first = p.carries in
        let next = q.carries in
        record {
          carries = then_carries p next;
          level = λ ok s m x. subst (λ u. m.terminal.screen.row ≤ u.terminal.screen.row) (sym (mode_after-append m first.bytes next.bytes))
              (omega (arith, p.level refl s m x, q.level ok (f s) (mode_after m first.bytes) (first.leads refl s m x)));
        }

  module _ {P Q Q' : EndedRows T → Screen → ModeTerminal → Type 0} {f g : Screen → Screen} {a b : EndedRows T} {e : Error} where
    pub carry_fails : (r : Result Unit Error) → IsErrAnd r (λ x. x ≡ e) → LeadsBoth view P Q f a b (Err e) → LeadsBoth view P Q' g a b r
    carry_fails (Ok x) h p = absurd h
    carry_fails (Err x) h p = record { quiet = fails (Err x) h p.quiet; bytes = p.bytes; told_is = p.told_is; stays = p.stays; leads = λ ok. absurd (false≢true ok) }

    pub fall_fails : (r : Result Unit Error) → IsErrAnd r (λ x. x ≡ e) → Falls view P Q f a b (Err e) → Falls view P Q' g a b r
    fall_fails (Ok x) h p = absurd h
    fall_fails (Err x) h p = record { carries = carry_fails (Err x) h p.carries; level = λ ok. absurd (false≢true ok) }

  -- a step from what follows from what was known, on the same terminal
  pub from_weaker : {P P' Q : EndedRows T → Screen → ModeTerminal → Type 0} {f : Screen → Screen} {a a' b : EndedRows T} (r : Result Unit Error) → a'.term ≡ a.term →
      ((s : Screen) (m : ModeTerminal) → P a s m → P' a' s m) → Falls view P' Q f a' b r → Falls view P Q f a b r
  from_weaker {a = a} {a' = a'} {b = b} r e h p = record {
    carries = record {
      quiet = subst (λ t. Quietly (view t) (view b.term) r) e p.carries.quiet;
      bytes = p.carries.bytes;
      told_is = subst (λ t. IsTrue (Rattle.indicatif_term.specs.Calls.is_told (view t).told) → (view b.term).told ≡ led_on (view t).told p.carries.bytes) e p.carries.told_is;
      stays = λ s m x. p.carries.stays s m (h s m x);
      leads = λ ok s m x. p.carries.leads ok s m (h s m x);
    };
    level = λ ok s m x. p.level ok s m (h s m x);
  }

  -- a step to what follows, or to the same screen by other words
  pub to_weaker : {P Q Q' : EndedRows T → Screen → ModeTerminal → Type 0} {f f' : Screen → Screen} {a b : EndedRows T} (r : Result Unit Error) →
      ((s : Screen) (m m' : ModeTerminal) → P a s m → Q b (f s) m' → Q' b (f' s) m') → Falls view P Q f a b r → Falls view P Q' f' a b r
  to_weaker r h p = record {
    carries = record {
      quiet = p.carries.quiet;
      bytes = p.carries.bytes;
      told_is = p.carries.told_is;
      stays = p.carries.stays;
      leads = λ ok s m x. h s m (mode_after m p.carries.bytes) x (p.carries.leads ok s m x);
    };
    level = p.level;
  }

  -- bytes that are written, or a beginning of them
  pub sends : {P Q : EndedRows T → Screen → ModeTerminal → Type 0} {f : Screen → Screen} {a b : EndedRows T} (bytes : List ℕ) (r : Result Unit Error) →
      Writes bytes (view a.term) (view b.term) r →
      ((view b.term).columns ≡ (view a.term).columns → (view b.term).faults ≡ (view a.term).faults → Steps P Q f a b bytes) →
      ((s : Screen) (m : ModeTerminal) → P a s m → (n : ℕ) → n ≤ m.terminal.screen.row → StayAlong n m bytes) → Falls view P Q f a b r
  sends {a = a} {b = b} bytes (Ok x) w h stay =
      let steps = h w.columns_are w.faults_are in
      record {
        carries = record {
          quiet = quietly bytes (view a.term) (view b.term) (Ok x) w;
          bytes = bytes;
          told_is = w.told_is;
          stays = steps.stays;
          leads = λ ok s m x. steps.leads s m x;
        };
        level = λ ok s m x. steps.level s m x;
      }
  sends {a = a} {b = b} bytes (Err e) w h stay = record {
    carries = record {
      quiet = quietly bytes (view a.term) (view b.term) (Err e) w;
      bytes = w.front;
      told_is = w.told_is;
      stays = λ s m x n low. stay_front n m w.front w.rest (subst (StayAlong n m) (sym w.whole) (stay s m x n low));
      leads = λ ok. absurd (false≢true ok);
    };
    level = λ ok. absurd (false≢true ok);
  }

  -- where something else holds before, it does after
  pub adds : {P Q : EndedRows T → Screen → ModeTerminal → Type 0} {f : Screen → Screen} {a b : EndedRows T} (X : Type 0) (r : Result Unit Error) → Falls view P Q f a b r →
      Falls view (λ own s m. P own s m × X) (λ own s m. Q own s m × X) f a b r
  adds X r p = record {
    carries = record {
      quiet = p.carries.quiet;
      bytes = p.carries.bytes;
      told_is = p.carries.told_is;
      stays = λ s m x. p.carries.stays s m x.0;
      leads = λ ok s m x. (p.carries.leads ok s m x.0, x.1);
    };
    level = λ ok s m x. p.level ok s m x.0;
  }

  -- bytes that may lead up
  pub carry_sends : {P Q : EndedRows T → Screen → ModeTerminal → Type 0} {f : Screen → Screen} {a b : EndedRows T} (bytes : List ℕ) (r : Result Unit Error) →
      Writes bytes (view a.term) (view b.term) r →
      ((view b.term).columns ≡ (view a.term).columns → (view b.term).faults ≡ (view a.term).faults → (s : Screen) (m : ModeTerminal) → P a s m → Q b (f s) (mode_after m bytes)) →
      ((s : Screen) (m : ModeTerminal) → P a s m → (n : ℕ) → n ≤ m.terminal.screen.row → StayAlong n m bytes) → LeadsBoth view P Q f a b r
  carry_sends {a = a} {b = b} bytes (Ok x) w h stay = record {
    quiet = quietly bytes (view a.term) (view b.term) (Ok x) w;
    bytes = bytes;
    told_is = w.told_is;
    stays = stay;
    leads = λ ok s m x. h w.columns_are w.faults_are s m x;
  }
  carry_sends {a = a} {b = b} bytes (Err e) w h stay = record {
    quiet = quietly bytes (view a.term) (view b.term) (Err e) w;
    bytes = w.front;
    told_is = w.told_is;
    stays = λ s m x n low. stay_front n m w.front w.rest (subst (StayAlong n m) (sym w.whole) (stay s m x n low));
    leads = λ ok. absurd (false≢true ok);
  }

  pub carry_weaker : {P Q Q' : EndedRows T → Screen → ModeTerminal → Type 0} {f f' : Screen → Screen} {a b : EndedRows T} (r : Result Unit Error) →
      ((s : Screen) (m m' : ModeTerminal) → P a s m → Q b (f s) m' → Q' b (f' s) m') → LeadsBoth view P Q f a b r → LeadsBoth view P Q' f' a b r
  carry_weaker r h p = record {
    quiet = p.quiet;
    bytes = p.bytes;
    told_is = p.told_is;
    stays = p.stays;
    leads = λ ok s m x. h s m (mode_after m p.bytes) x (p.leads ok s m x);
  }
