-- A replacement in lists that hold the same sound register has the same reply, and leaves the same register. Rests on
-- SameRegisters.antt, TwoLadders.antt, `pattern`, `listing`, `text`, `register`, `judge`, `replace` and `replies`.
use mathlib.Core.List.{List, [], ◌∷◌, ◌++◌}
use mathlib.Core.Path.{◌≡◌, refl, sym, ap, ap₂, subst, subst₂, ◌∙◌}
use Prim.Native.Nat.{ℕ, ◌≤◌, ◌<◌}
use native.Mathlib.Omega.{arith}
use lib.ListN.{length, take}
use Rattle.pattern.specs.Flat.{start_of}
use Rattle.pattern.specs.Rising.{Rising}
use Rattle.pattern.specs.Verdict.{Replacement, spiked_columns, cleared_columns, Verdict, Singular, Permuted, Elimination, Judged}
use Rattle.pattern.proofs.Clearing.{spiked_columns_rise, cleared_columns_rise, cleared_is}
use Rattle.pattern.proofs.Rungs.{unless_held}
use Rattle.pattern.proofs.Turning.{Columns}
use Rattle.pattern.proofs.Verdicts.{judged_unique, elimination_sound}
use Rattle.listing.specs.Limits.{max_size, max_total}
use Rattle.text.specs.Text.{spaced}
use Rattle.register.specs.Lent.{Lists}
use Rattle.judge.specs.Call.{Call, call, asked}
use Rattle.judge.specs.Judge.{Judgeable}
use Rattle.judge.proofs.Asked.{call_columns, call_size, call_judged}
use Rattle.replace.specs.ReplaceChecks.{new_total, NewFits}
use Rattle.replace.specs.Replace.{Outcome, stored, refusal, after, Answered, Replaces}
use Rattle.replace.specs.Reply.{Reply}
use Rattle.replace.proofs.Runs.{sound_after}
use Rattle.replace.proofs.Spikes.{spiked_total_is, spiked_fits, cleared_fits}
use Rattle.replies.specs.Replies.{answer_text, reply_line, put_reply, put_word}
use Rattle.script.proofs.Heads.{over_same}
use Rattle.script.proofs.Roominess.{Ample, takes_less, ample_fits}
use Rattle.script.proofs.SameRegisters.{HoldsSame, RegistersAgree, holding_same, pairs_same}
use Rattle.script.proofs.TwoLadders.{unless_two}

-- The same reply, the same eta rows that it counts, and the same register.
pub record OutcomesAgree (m : ℕ) (o o' : Outcome) : Type 0 where
  pub same_reply : o.reply ≡ o'.reply
  pub same_eta : take o.reply.eta_count o.eta ≡ take o.reply.eta_count o'.eta
  pub held : HoldsSame m o.lists o'.lists

-- So what is printed is the same.
pub reply_same : {m : ℕ} {o o' : Outcome} (c : ℕ) → OutcomesAgree m o o' → put_reply m c o ≡ put_reply m c o'
reply_same {m} {o} {o'} c B =
    let l = o'.lists in
    ap₂ (λ (eta : List ℕ) (order : List (ℕ × ℕ)). put_word ++ (spaced (c ∷ []) ++ answer_text o.reply.answer o.reply.bump eta order)) B.same_eta (pairs_same B.held)
    ∙ ap (λ (r : Reply). reply_line m c r l.order_rows l.order_cols o'.eta) B.same_reply

module _ {m : ℕ} {l l' : Lists} (c : ℕ) (new eta eta' : List ℕ) (A : RegistersAgree m l l') (T : Ample l) (T' : Ample l')
    (E : max_size ≤ length eta) (E' : max_size ≤ length eta') where
  abbrev a : Call
  a = call m l c new eta

  abbrev a' : Call
  a' = call m l' c new eta'

  small : m ≤ max_size
  small = A.sound.sized.1

  -- The same is asked, and what is stored for both is the same.
  asked_same : asked a ≡ asked a'
  asked_same = cc (A.same.same_columns, A.same.same_rows, A.same.same_cols)

  stored_same : {P : List (List ℕ)} → Columns m P → start_of P m ≤ max_total → (p q : List ℕ) → length p ≡ m → length q ≡ m
      → HoldsSame m (stored a P p q) (stored a' P p q)
  stored_same C few p q np nq = holding_same A.sound.sized C few (takes_less small few T) (takes_less small few T') p q np nq

  module _ (h : c < m) (N : Rising m new) where
    J : Judgeable a
    J = record { sound = A.sound; column_below = h; new_rise = N }

    J' : Judgeable a'
    J' = record { sound = A.sound'; column_below = h; new_rise = N }

    -- Check 8 speaks of the total that the columns have, and of lists with 12,000 places.
    total_same : new_total m l.col_starts c (length new) ≡ new_total m l'.col_starts c (length new)
    total_same = sym (spiked_total_is J) ∙ ap (λ (x : Replacement). start_of (spiked_columns x) m) asked_same ∙ spiked_total_is J'

    fits_to : NewFits a → NewFits a'
    fits_to F = ample_fits T' (subst (λ (n : ℕ). n ≤ max_total) total_same F.few)

    fits_back : NewFits a' → NewFits a
    fits_back F = ample_fits T (subst (λ (n : ℕ). n ≤ max_total) (sym total_same) F.few)

    -- One verdict leaves the same.
    verdict_agree : NewFits a → (v : Verdict) → Judged (asked a) v → OutcomesAgree m (after a v) (after a' v)
    verdict_agree F Singular j = record { same_reply = refl; same_eta = refl; held = A.same }
    verdict_agree F (Permuted p q) j =
        record {
          same_reply = refl;
          same_eta = refl;
          held =
              subst (λ (x : Replacement). HoldsSame m (stored a (spiked_columns (asked a)) p q) (stored a' (spiked_columns x) p q)) asked_same
              (stored_same (spiked_columns_rise (call_columns J) h N) (spiked_fits J F).few p q (j.row_count ∙ call_size J) (j.col_count ∙ call_size J));
        }
    verdict_agree F (Elimination p q b e) j =
        let o = elimination_sound (asked a) (call_judged J) j (cleared_is (asked a) (call_judged J)) in
        record {
          same_reply = refl;
          same_eta = over_same e eta eta' refl;
          held =
              subst (λ (x : Replacement). HoldsSame m (stored a (cleared_columns (asked a)) p q) (stored a' (cleared_columns x) p q)) asked_same
              (stored_same (subst (λ (n : ℕ). Columns n (cleared_columns (asked a))) (call_size J) (cleared_columns_rise (asked a))) (cleared_fits J F j.not_singular).few
              p q (o.row_count ∙ call_size J) (o.col_count ∙ call_size J));
        }

    -- And the verdict is one.
    answers_agree : {o o' : Outcome} → NewFits a → Answered a o → Answered a' o' → OutcomesAgree m o o'
    answers_agree F (v, j, e) (v', j', e') =
        let u = judged_unique (asked a) (call_judged J) v v' j (subst (λ (x : Replacement). Judged x v') (sym asked_same) j') in
        subst₂ (OutcomesAgree m) (sym e) (ap (after a') u ∙ sym e') (verdict_agree F v j)

  -- No check of the register refuses, and those of the new column speak of the same.
  refusals_agree : (n : ℕ) → OutcomesAgree m (refusal a n) (refusal a' n)
  refusals_agree n = record { same_reply = refl; same_eta = refl; held = A.same }

  ladders_agree : (o o' : Outcome) → Replaces a o → Replaces a' o' → OutcomesAgree m o o'
  ladders_agree o o' x x' =
      let s = A.sound in
      let s' = A.sound' in
      let R = OutcomesAgree m in
      unless_two R (λ h. h) (λ h. h) (refusals_agree 6) (λ h _.
      unless_two R (λ N. N) (λ N. N) (refusals_agree 7) (λ N _.
      unless_two R (fits_to h N) (fits_back h N) (refusals_agree 8) (λ F _. answers_agree h N F)))
      (unless_held s.order (unless_held s.agree (unless_held s.formed (unless_held (s.long, omega (arith, small)) (unless_held s.sized x)))))
      (unless_held s'.order (unless_held s'.agree (unless_held s'.formed (unless_held (s'.long, omega (arith, small)) (unless_held s'.sized x')))))

  -- And both registers are sound again.
  pub outcomes_agree : (o o' : Outcome) → Replaces a o → Replaces a' o' → OutcomesAgree m o o' × RegistersAgree m o.lists o'.lists
  outcomes_agree o o' x x' =
      let O = ladders_agree o o' x x' in
      (O, record { sound = sound_after a o A.sound x; sound' = sound_after a' o' A.sound' x'; same = O.held })
