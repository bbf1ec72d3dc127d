-- Bytes read one after another, and that numbers after spaces are read back. Rests on Spellings.antt and SpacedLaws.antt.
use mathlib.Core.List.{List, [], ◌∷◌, ◌++◌, append-nil, append_assoc}
use mathlib.Core.Path.{◌≡◌, refl, sym, ap, ◌∙◌, subst}
use Prim.Native.Nat.{ℕ, zero, suc, ◌+◌, ◌*◌, ◌/◌, ◌%◌, ◌≤◌, ◌<◌}
use native.Mathlib.Decide.{dec_lt}
use native.Mathlib.Omega.{arith}
use Rattle.text.specs.Spelling.{Spelt, empty, gap, inside, wrong, with_space, with_byte}
use Rattle.text.specs.Text.{space, max_number, decimal, spaced, Small}
use Rattle.text.proofs.Decimals.{decimal_digit, decimal_more}
use Rattle.text.proofs.SpacedLaws.{spaced_none, spaced_front}
use Rattle.text.proofs.Spellings.{space_more, digit_more, number_more, wrong_more}

-- What is spelt when all of some bytes have been read behind it.
unfoldable pub reads : Spelt → List ℕ → Spelt
reads x [] = x
reads x (b ∷ l) = reads (with_byte x b) l

pub reads_none : (x : Spelt) → reads x [] ≡ x
unfolding reads
reads_none x = refl

pub reads_front : (x : Spelt) (b : ℕ) (l : List ℕ) → reads x (b ∷ l) ≡ reads (with_byte x b) l
unfolding reads
reads_front x b l = refl

pub reads_both : (x : Spelt) (k l : List ℕ) → reads x (k ++ l) ≡ reads (reads x k) l
unfolding reads
reads_both x [] l = refl
reads_both x (b ∷ k) l = reads_both (with_byte x b) k l

pub reads_one : (x : Spelt) (k : List ℕ) (b : ℕ) → reads x (k ++ (b ∷ [])) ≡ with_byte (reads x k) b
unfolding reads
reads_one x k b = reads_both x k (b ∷ [])

pub reads_wrong : (l : List ℕ) → reads wrong l ≡ wrong
unfolding reads
reads_wrong [] = refl
reads_wrong (b ∷ l) = ap (λ (x : Spelt). reads x l) (wrong_more b) ∙ reads_wrong l

-- ---- A number

reads_decimal : (f n : ℕ) (l : List ℕ) → n < f → n ≤ max_number → Dec (n < 10) → reads (gap l) (decimal n) ≡ inside l n
reads_decimal zero n l h k d = absurd (omega arith)
reads_decimal (suc f) n l h k (yes u) = ap (reads (gap l)) (decimal_digit n u) ∙ reads_one (gap l) [] (48 + n) ∙ ap (λ (x : Spelt). with_byte x (48 + n)) (reads_none (gap l)) ∙ digit_more (gap l) n u
reads_decimal (suc f) n l h k (no u) =
    let e : 10 * (n / 10) + n % 10 ≡ n = omega arith in
    ap (reads (gap l)) (decimal_more n (omega arith))
    ∙ reads_one (gap l) (decimal (n / 10)) (48 + n % 10)
    ∙ ap (λ (x : Spelt). with_byte x (48 + n % 10)) (reads_decimal f (n / 10) l (omega arith) (omega arith) (dec_lt (n / 10) 10))
    ∙ digit_more (inside l (n / 10)) (n % 10) (omega arith)
    ∙ number_more l (n / 10) (n % 10) (omega arith) (omega arith)
    ∙ ap (inside l) e

-- ---- Numbers

-- What is spelt are just these numbers.
abbrev pub Ends : Spelt → List ℕ → Type 0
Ends empty l = l ≡ []
Ends (gap k) l = ⊥
Ends (inside k v) l = l ≡ k ++ (v ∷ [])
Ends wrong l = ⊥

pub ends_one : {l k : List ℕ} (x : Spelt) → Ends x l → Ends x k → l ≡ k
ends_one empty e f = e ∙ sym f
ends_one (gap j) e f = absurd e
ends_one (inside j v) e f = e ∙ sym f
ends_one wrong e f = absurd e

ends_gap : {k : List ℕ} (x : Spelt) → Ends x k → with_space x ≡ gap k
ends_gap empty e = ap gap (sym e)
ends_gap (gap j) e = absurd e
ends_gap (inside j v) e = ap gap (sym e)
ends_gap wrong e = absurd e

reads_number : (x : Spelt) (k : List ℕ) (n : ℕ) → Ends x k → n ≤ max_number → reads x (space ∷ decimal n) ≡ inside k n
reads_number x k n e h =
    reads_front x space (decimal n) ∙ ap (λ (y : Spelt). reads y (decimal n)) (space_more x ∙ ends_gap x e) ∙ reads_decimal (suc n) n k (omega arith) h (dec_lt n 10)

reads_first : (x : Spelt) (k : List ℕ) (n : ℕ) (l : List ℕ) → Ends x k → n ≤ max_number → reads x (spaced (n ∷ l)) ≡ reads (inside k n) (spaced l)
reads_first x k n l e h =
    ap (reads x) (spaced_front n l) ∙ reads_both x (space ∷ decimal n) (spaced l) ∙ ap (λ (y : Spelt). reads y (spaced l)) (reads_number x k n e h)

-- Behind numbers, more numbers.
pub reads_spaced : (x : Spelt) (k l : List ℕ) → Ends x k → Small l → Ends (reads x (spaced l)) (k ++ l)
reads_spaced x k [] e s = subst (λ (y : Spelt). Ends y (k ++ [])) (sym (ap (reads x) spaced_none ∙ reads_none x)) (rw append-nil e)
reads_spaced x k (n ∷ l) e s =
    subst (λ (y : Spelt). Ends y (k ++ (n ∷ l))) (sym (reads_first x k n l e (s 0 (omega arith))))
    (subst (λ (j : List ℕ). Ends (reads (inside k n) (spaced l)) j) (append_assoc k (n ∷ []) l)
    (reads_spaced (inside k n) (k ++ (n ∷ [])) l refl (λ i h. s (suc i) (omega arith))))
