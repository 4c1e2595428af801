-- Rows of the projection over the words of slices.
use Rattle.std.specs.Prelude.{◌≡◌, List, ℕ, ◌+◌, ◌-◌, ◌*◌, ◌%◌, ◌≤◌, ◌<◌, length, get_or}
use Rattle.math.specs.lists.Sum.{Σ}
use Rattle.spec_leaves.specs.Zq.{Q, lack_Q}
use Rattle.spec_leaves.specs.Projection.{entry}
use Rattle.ring_zq.specs.Words.{lack}
use Rattle.transcript_words.specs.Entries.{by_entry}

-- the product of a projection word's entry and a word, without a product: −x, x or 0 modulo Q
abbrev pub term : ℕ → ℕ → ℕ
term code x = by_entry code (lack x) x 0

-- the same with the bits of x changed for −x, which lacks some of it, and whether it does
abbrev pub flipped : ℕ → ℕ → ℕ
flipped code x = by_entry code (4294967295 - x) x 0

abbrev pub is_negative : ℕ → ℕ
is_negative code = by_entry code 1 0 0

-- what 2^32 − 1, a word and its bits changed, lacks of a multiple of Q
abbrev pub flip_Q : ℕ
flip_Q = (Q - (lack_Q - 1)) % Q

-- the sum of `count` flipped words, with what they lack
unfoldable pub flipped_row : List ℕ → ℕ → List ℕ → ℕ → ℕ → ℕ
flipped_row R at W wt count = Σ count (λ m. flipped (get_or R (at + m) 0) (get_or W (wt + m) 0) + is_negative (get_or R (at + m) 0) * flip_Q)

-- 256 sums, each with room for a row of 65536 words: a flipped word and what it lacks are at most 8589934590
abbrev pub SumsRoom : List ℕ → Type 0
SumsRoom sums = (length sums ≡ 256) × ((j : ℕ) → j < 256 → get_or sums j 0 ≤ 32767 * (65536 * 8589934590))

-- sum j + t with number t of a list added
abbrev pub raised : List ℕ → ℕ → List ℕ → ℕ → ℕ
raised sums j rows t = get_or sums (j + t) 0 + get_or rows t 0

-- sum j with row j of a vector added, its rows one after the other from `at` on
abbrev pub row_added : List ℕ → List ℕ → ℕ → List ℕ → ℕ → ℕ → ℕ → ℕ
row_added sums R at W wt width j = get_or sums j 0 + flipped_row R (at + j * width) W wt width

-- the sum of the products of the entries of `count` projection words and as many words, before the reduction modulo Q
unfoldable pub row_sum : List ℕ → ℕ → List ℕ → ℕ → ℕ → ℕ
row_sum R at W wt count = Σ count (λ m. entry (get_or R (at + m) 0) * get_or W (wt + m) 0)
