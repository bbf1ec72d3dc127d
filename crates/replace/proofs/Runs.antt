-- After a right reply a sound register is sound again, and so after any number of calls. Rests on Spikes.antt, `pattern`,
-- `listing`, `register` and `judge`.
use mathlib.Core.List.{List}
use mathlib.Core.Path.{sym, ◌∙◌, subst}
use Prim.Native.Nat.{ℕ}
use Rattle.pattern.specs.Flat.{start_of}
use Rattle.pattern.specs.Order.{SoundOrder}
use Rattle.pattern.specs.Pattern.{Entry}
use Rattle.pattern.specs.Verdict.{cleared_columns, Verdict, Singular, Permuted, Elimination, Judged}
use Rattle.pattern.proofs.Clearing.{spiked_columns_rise, cleared_columns_rise, cleared_is}
use Rattle.pattern.proofs.Rungs.{unless_both}
use Rattle.pattern.proofs.Turning.{Columns}
use Rattle.pattern.proofs.Verdicts.{elimination_sound}
use Rattle.register.specs.Checks.{Fits}
use Rattle.register.specs.Lent.{Lists, SoundLists}
use Rattle.register.proofs.Holdings.{holding_sound}
use Rattle.judge.specs.Call.{Call, call, asked}
use Rattle.judge.specs.Judge.{Judgeable}
use Rattle.judge.proofs.Asked.{call_columns, call_size, call_judged}
use Rattle.replace.specs.ReplaceChecks.{NewFits}
use Rattle.replace.specs.Replace.{Outcome, stored, after, Replaces}
use Rattle.replace.proofs.Spikes.{spiked_fits, cleared_fits}

-- ---- After a call

module _ (a : Call) (s : SoundLists a.size a.lists) {P : List (List ℕ)} (C : Columns a.size P)
    (F : Fits (start_of P a.size) a.lists.col_rows a.lists.row_cols) where
  -- What is stored with a sound order is a sound register.
  stored_sound : (p q : List ℕ) → SoundOrder (Entry P) a.size p q → SoundLists a.size (stored a P p q)
  stored_sound =
      holding_sound s.sized C F.few
      (record {
        col_starts_fit = s.long.columns_fit.starts_long;
        col_rows_fit = F.in_columns;
        row_starts_fit = s.long.rows_fit.starts_long;
        row_cols_fit = F.in_rows;
        order_rows_fit = s.long.order_rows_fit;
        order_cols_fit = s.long.order_cols_fit;
      })

module _ (a : Call) where
  -- After the right verdict.
  judged_after : Judgeable a → NewFits a → (v : Verdict) → Judged (asked a) v → SoundLists a.size (after a v).lists
  judged_after J F Singular j = J.sound
  judged_after J F (Permuted p q) j =
      stored_sound a J.sound (spiked_columns_rise (call_columns J) J.column_below J.new_rise) (spiked_fits J F) p q
      (record { row_count = j.row_count ∙ call_size J; col_count = j.col_count ∙ call_size J; sound = rw (call_size J) at j.leading.sound })
  judged_after J F (Elimination p q b e) j =
      let t = call_judged J in
      stored_sound a J.sound (subst (λ (n : ℕ). Columns n (cleared_columns (asked a))) (call_size J) (cleared_columns_rise (asked a)))
      (cleared_fits J F j.not_singular) p q
      (subst (λ (n : ℕ). SoundOrder (Entry (cleared_columns (asked a))) n p q) (call_size J) (elimination_sound (asked a) t j (cleared_is (asked a) t)))

  -- After every right outcome.
  pub sound_after : (o : Outcome) → SoundLists a.size a.lists → Replaces a o → SoundLists a.size o.lists
  sound_after o s =
      unless_both Left s (λ p.
      unless_both Left s (λ q.
      unless_both Left s (λ f.
      unless_both Left s (λ g.
      unless_both Left s (λ t.
      unless_both Left s (λ c.
      unless_both Left s (λ n.
      unless_both Left s (λ w x.
      let J : Judgeable a = record { sound = s; column_below = c; new_rise = n } in
      subst Left (sym x.2) (judged_after J w x.0 x.1)))))))))
    where
      Left : Outcome → Type 0
      Left o = SoundLists a.size o.lists

-- ---- After any number of calls

-- Calls on a register of size `m`, each on the lists that the one before left: from the lists `l` to the last ones.
pub data Run (m : ℕ) : Lists → Lists → Type 0 where
  ended : {l : Lists} → Run m l l
  called : {l l' : Lists} (c : ℕ) (new eta : List ℕ) (o : Outcome) → Replaces (call m l c new eta) o → Run m o.lists l' → Run m l l'

pub run_sound : {m : ℕ} {l l' : Lists} → SoundLists m l → Run m l l' → SoundLists m l'
run_sound s ended = s
run_sound {m} {l} s (called c new eta o x r) = run_sound (sound_after (call m l c new eta) o s x) r
