-- The challenge of 41 sign words and 63 shuffle words (document 01, "Leaves").
use Rattle.std.specs.Prelude.{cond, List, ℕ, zero, suc, ◌+◌, ◌-◌, ◌%◌, ltb, eqb, get_or, set}
use Rattle.math.specs.lists.Table.{table}
use Rattle.spec_leaves.specs.Zq.{zneg}

-- "coefficients 0 to 30 are 1 for sign 1, else −1; 31 to 40 are 2 or −2; the rest 0": the size of coefficient k
abbrev pub start_size : ℕ → ℕ
start_size k = cond (ltb k 31) 1 (cond (ltb k 41) 2 0)

-- coefficient k before the shuffle
abbrev pub start_coeff : List ℕ → ℕ → ℕ
start_coeff signs k = cond (eqb (get_or signs k 0) 1) (start_size k) (zneg (start_size k))

-- the coefficients before the shuffle
unfoldable pub start : List ℕ → List ℕ
start signs = table 64 (start_coeff signs)

-- the list with the values at i and j exchanged
abbrev pub swap : List ℕ → ℕ → ℕ → List ℕ
swap a i j = set (set a i (get_or a j 0)) j (get_or a i 0)

-- "Then i from 63 down to 1 is swapped with (shuffle word mod (i+1))": the first k swaps. Swap k is that of i = 63 − k
unfoldable pub swaps : List ℕ → ℕ → List ℕ → List ℕ
swaps words zero a = a
swaps words (suc k) a = swap (swaps words k a) (63 - k) (get_or words k 0 % (63 - k + 1))

-- all 63 swaps
unfoldable pub shuffle : List ℕ → List ℕ → List ℕ
shuffle words a = swaps words 63 a

-- the challenge of its sign words and shuffle words
unfoldable pub challenge : List ℕ → List ℕ → List ℕ
challenge signs words = shuffle words (start signs)
