-- The reply lines. Rests on `text`, `replace` and `pattern`.
use Rattle.std.specs.Prelude.{List, [], ◌∷◌, ◌++◌, ℕ, take}
use Rattle.pattern.specs.Order.{pairs}
use Rattle.text.specs.Series.{series}
use Rattle.text.specs.Text.{LF, space, decimal, carried, spaced}
use Rattle.replace.specs.Replace.{Outcome}
use Rattle.replace.specs.Reply.{Answer, REFUSED, SINGULAR, PERMUTED, ELIMINATION, Reply}

-- The byte between a row and a column.
abbrev pub colon : ℕ
colon = 58

-- No reply line has more bytes.
abbrev pub max_reply : ℕ
max_reply = 20000

-- ---- Words: 'put', 'start', 'bad line', ' REFUSED', ' SINGULAR', ' PERMUTED', ' ELIMINATION', ' eta', ' -', ' order'

unfoldable pub put_word : List ℕ
put_word = 112 ∷ 117 ∷ 116 ∷ []

unfoldable pub start_word : List ℕ
start_word = 115 ∷ 116 ∷ 97 ∷ 114 ∷ 116 ∷ []

unfoldable pub bad_word : List ℕ
bad_word = 98 ∷ 97 ∷ 100 ∷ 32 ∷ 108 ∷ 105 ∷ 110 ∷ 101 ∷ []

unfoldable pub refused_word : List ℕ
refused_word = 32 ∷ 82 ∷ 69 ∷ 70 ∷ 85 ∷ 83 ∷ 69 ∷ 68 ∷ []

unfoldable pub singular_word : List ℕ
singular_word = 32 ∷ 83 ∷ 73 ∷ 78 ∷ 71 ∷ 85 ∷ 76 ∷ 65 ∷ 82 ∷ []

unfoldable pub permuted_word : List ℕ
permuted_word = 32 ∷ 80 ∷ 69 ∷ 82 ∷ 77 ∷ 85 ∷ 84 ∷ 69 ∷ 68 ∷ []

unfoldable pub elimination_word : List ℕ
elimination_word = 32 ∷ 69 ∷ 76 ∷ 73 ∷ 77 ∷ 73 ∷ 78 ∷ 65 ∷ 84 ∷ 73 ∷ 79 ∷ 78 ∷ []

unfoldable pub eta_word : List ℕ
eta_word = 32 ∷ 101 ∷ 116 ∷ 97 ∷ []

unfoldable pub none_word : List ℕ
none_word = 32 ∷ 45 ∷ []

unfoldable pub places_word : List ℕ
places_word = 32 ∷ 111 ∷ 114 ∷ 100 ∷ 101 ∷ 114 ∷ []

-- ---- Lines

-- A word, a number and the LF: 'bad line 5' is the whole line.
abbrev pub numbered : List ℕ → ℕ → List ℕ
numbered word n = word ++ (spaced (n ∷ []) ++ (LF ∷ []))

abbrev pub bad_line : ℕ → List ℕ
bad_line k = numbered bad_word k

abbrev pub start_refused : ℕ → List ℕ
start_refused n = start_word ++ numbered refused_word n

-- The eta rows, or '-' where there are none.
abbrev pub eta_text : List ℕ → List ℕ
eta_text [] = none_word
eta_text (r ∷ eta) = spaced (r ∷ eta)

-- A place as row:column after a space, and all places.
abbrev pub place_text : ℕ → ℕ × ℕ → List ℕ
place_text s place = space ∷ (decimal place.0 ++ (colon ∷ decimal place.1))

abbrev pub places_text : List (ℕ × ℕ) → List ℕ
places_text = series place_text carried 0

-- A verdict with its fields: bump, eta rows, order.
abbrev pub verdict_text : (word : List ℕ) (bump : ℕ) (eta : List ℕ) (order : List (ℕ × ℕ)) → List ℕ
verdict_text word bump eta order =
    word ++ (spaced (bump ∷ []) ++ (eta_word ++ (eta_text eta ++ (places_word ++ (places_text order ++ (LF ∷ []))))))

-- What follows 'put' and the column: of a refusal its number only.
abbrev pub answer_text : Answer → (bump : ℕ) (eta : List ℕ) (order : List (ℕ × ℕ)) → List ℕ
answer_text (REFUSED n) bump eta order = numbered refused_word n
answer_text SINGULAR bump eta order = verdict_text singular_word bump eta order
answer_text PERMUTED bump eta order = verdict_text permuted_word bump eta order
answer_text ELIMINATION bump eta order = verdict_text elimination_word bump eta order

-- What follows them in a reply on a register of size `m`, with the order and the eta list.
abbrev pub reply_text : (m : ℕ) → Reply → (rows cols eta : List ℕ) → List ℕ
reply_text m r rows cols eta = answer_text r.answer r.bump (take r.eta_count eta) (pairs m rows cols)

-- The reply line of 'put c': the order and the eta list are those after the call.
abbrev pub reply_line : (m c : ℕ) → Reply → (rows cols eta : List ℕ) → List ℕ
reply_line m c r rows cols eta = put_word ++ (spaced (c ∷ []) ++ reply_text m r rows cols eta)

abbrev pub put_reply : (m c : ℕ) → Outcome → List ℕ
put_reply m c o = reply_line m c o.reply o.lists.order_rows o.lists.order_cols o.eta
