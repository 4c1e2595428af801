-- A transcript's window of the scratch.
use mathlib.Core.Path.{◌≡◌, sym, ap, subst, ◌∙◌}
use mathlib.Core.List.{List}
use Prim.Native.Nat.{ℕ, ◌+◌, ◌-◌, ◌*◌, ◌≤◌}
use native.Mathlib.Omega.{arith}
use borrow.Rule.Slice.PartMut.{put_mid, same_len_mid, drop_put}
use lib.ListN.{length, take, drop}
use Rattle.math.specs.lists.Part.{part}
use Rattle.math.proofs.lists.Splice.{length_part}
use Rattle.spec_protocol.specs.Unchanged.{Unchanged}

-- one more window
pub next : (m need : ℕ) → m * need + need ≡ (m + 1) * need
next m need = omega arith

module _ (S : List ℕ) (m need n : ℕ) (e : n ≡ need) (room : (m + 1) * need ≤ length S) where
  pub inside : m * n + n ≤ length S
  inside = subst (λ k. m * k + k ≤ length S) (sym e) (omega (arith, next m need))

  -- the words that are lent
  pub lent-window : take (m * n + n - m * n) (drop (m * n) S) ≡ part S (m * need) need
  lent-window = let count : m * n + n - m * n ≡ n = omega arith in ap (λ k. take k (drop (m * n) S)) count ∙ ap (λ k. part S (m * k) k) e

  pub lent_length : length (take (m * n + n - m * n) (drop (m * n) S)) ≡ need
  lent_length = ap length lent-window ∙ length_part S (m * need) need (omega (arith, next m need))

  -- the scratch with other words in the window
  pub unchanged_window : (W : List ℕ) → length W ≡ length (take (m * n + n - m * n) (drop (m * n) S)) → Unchanged ((m + 1) * need) S (put_mid (m * n) (m * n + n - m * n) S W)
  unchanged_window W size =
      let stop : m * n + n ≡ (m + 1) * need = ap (λ k. m * k + k) e ∙ next m need in
      subst (λ k. Unchanged k S (put_mid (m * n) (m * n + n - m * n) S W)) stop record {
        size = same_len_mid (m * n) (m * n + n - m * n) S W size;
        beyond = drop_put (m * n) (m * n + n) S W (omega arith) inside (omega (arith, size, lent_length, e));
      }

-- a window that lies in what is as it was
pub same-window : (S S' : List ℕ) (m need : ℕ) → Unchanged (m * need) S S' → part S' (m * need) need ≡ part S (m * need) need
same-window S S' m need unchanged = ap (take need) unchanged.beyond
