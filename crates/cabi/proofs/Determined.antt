-- No two results, with what they leave, satisfy the statement of a function for one input. Rests on `listing`, `register`,
-- `judge`, `sheet` and `replace`.
use mathlib.Core.List.{List}
use mathlib.Core.Path.{◌≡◌, sym, ap, ◌∙◌}
use Prim.Native.Nat.{ℕ, ◌+◌}
use native.Mathlib.Omega.{arith}
use Rattle.listing.specs.Look.{Spans}
use Rattle.register.specs.Checks.{FirstFault}
use Rattle.register.specs.Lent.{Lists}
use Rattle.register.proofs.Determined.{fault_one, span_determined}
use Rattle.judge.specs.Call.{Call}
use Rattle.sheet.specs.Reads.{ReadIn, read_in}
use Rattle.sheet.specs.Writes.{WrittenOut, written_out}
use Rattle.sheet.proofs.Determined.{written_one, read_one}
use Rattle.replace.specs.Replace.{Outcome, outcome}
use Rattle.replace.proofs.Determined.{outcome_one}
use Rattle.cabi.specs.Code.{code}
use Rattle.cabi.specs.Replace.{Gives}
use Rattle.cabi.specs.Sheets.{sheet_code, figure, GivesSheet, GivesRegister}

pub scrollbobbin_check_determined : (m : ℕ) (l : Lists) (n n' : ℕ) → FirstFault m l n → FirstFault m l n' → n ≡ n'
scrollbobbin_check_determined = fault_one

pub scrollbobbin_look_determined : (m c : ℕ) (starts rows : List ℕ) (b n b' n' : ℕ) → Spans m c starts rows (b, b + n) → Spans m c starts rows (b', b' + n')
    → (b ≡ b') × (n ≡ n')
scrollbobbin_look_determined m c starts rows b n b' n' f f' =
    let e = span_determined m c starts rows (b, b + n) (b', b' + n') f f' in
    let first = ap (λ (s : ℕ × ℕ). s.0) e in
    (first, omega (arith, first, ap (λ (s : ℕ × ℕ). s.1) e))

-- All that a replacement gives back: the result, the bump, the eta count, and the seven lists.
pub record SameGift (r b n : ℕ) (l : Lists) (e : List ℕ) (r' b' n' : ℕ) (l' : Lists) (e' : List ℕ) : Type 0 where
  pub result : r ≡ r'
  pub bump : b ≡ b'
  pub eta_count : n ≡ n'
  pub lists : l ≡ l'
  pub eta : e ≡ e'

pub scrollbobbin_replace_determined : (a : Call) (r b n : ℕ) (l : Lists) (e : List ℕ) (r' b' n' : ℕ) (l' : Lists) (e' : List ℕ) → Gives a r b n l e → Gives a r' b' n' l' e'
    → SameGift r b n l e r' b' n' l' e'
scrollbobbin_replace_determined a r b n l e r' b' n' l' e' f f' =
    let o = outcome_one a (outcome f.reply l e) (outcome f'.reply l' e') f.right f'.right in
    record {
      result = f.its_answer ∙ ap (λ (x : Outcome). code x.reply.answer) o ∙ sym f'.its_answer;
      bump = f.its_bump ∙ ap (λ (x : Outcome). x.reply.bump) o ∙ sym f'.its_bump;
      eta_count = f.its_eta_count ∙ ap (λ (x : Outcome). x.reply.eta_count) o ∙ sym f'.its_eta_count;
      lists = ap (λ (x : Outcome). x.lists) o;
      eta = ap (λ (x : Outcome). x.eta) o;
    }

-- All that a write gives back: the result, the byte count, the bytes.
pub record SameSheet (r k : ℕ) (b : List ℕ) (r' k' : ℕ) (b' : List ℕ) : Type 0 where
  pub result : r ≡ r'
  pub count : k ≡ k'
  pub bytes : b ≡ b'

pub scrollbobbin_write_sheet_determined : (m : ℕ) (l : Lists) (bytes : List ℕ) (r k : ℕ) (b : List ℕ) (r' k' : ℕ) (b' : List ℕ) → GivesSheet m l bytes r k b
    → GivesSheet m l bytes r' k' b' → SameSheet r k b r' k' b'
scrollbobbin_write_sheet_determined m l bytes r k b r' k' b' f f' =
    let o = written_one m l bytes (written_out f.reply b) (written_out f'.reply b') f.right f'.right in
    record {
      result = f.its_result ∙ ap (λ (x : WrittenOut). sheet_code x.reply) o ∙ sym f'.its_result;
      count = f.its_count ∙ ap (λ (x : WrittenOut). figure x.reply) o ∙ sym f'.its_count;
      bytes = ap (λ (x : WrittenOut). x.bytes) o;
    }

-- All that a read gives back: the result, the size, the six lists.
pub record SameRegister (r m : ℕ) (l : Lists) (r' m' : ℕ) (l' : Lists) : Type 0 where
  pub result : r ≡ r'
  pub size : m ≡ m'
  pub lists : l ≡ l'

pub scrollbobbin_read_sheet_determined : (l : Lists) (bytes : List ℕ) (r m : ℕ) (a : Lists) (r' m' : ℕ) (a' : Lists) → GivesRegister l bytes r m a
    → GivesRegister l bytes r' m' a' → SameRegister r m a r' m' a'
scrollbobbin_read_sheet_determined l bytes r m a r' m' a' f f' =
    let o = read_one l bytes (read_in f.reply a) (read_in f'.reply a') f.right f'.right in
    record {
      result = f.its_result ∙ ap (λ (x : ReadIn). sheet_code x.reply) o ∙ sym f'.its_result;
      size = f.its_size ∙ ap (λ (x : ReadIn). figure x.reply) o ∙ sym f'.its_size;
      lists = ap (λ (x : ReadIn). x.lists) o;
    }
