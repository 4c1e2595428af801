-- What is read at a position, case by case.
use mathlib.Core.Path.{◌≡◌, refl, sym, subst}
use mathlib.Core.List.{List}
use Prim.Native.Nat.{ℕ, ◌+◌, ◌≤◌, ◌<◌}
use native.Mathlib.Decide.{dec_lt}
use native.Mathlib.Omega.{arith}
use borrow.Author.Tests.{lt-ltb, le-ltb}
use lib.ListN.{length, get_or}
use Rattle.layout_section_reader.specs.declared.Read.TheVariants.{Section, Short, End}
use Rattle.layout_section_reader.specs.Read.{read_at, Inside}

module _ (words : List ℕ) (position : ℕ) where
  -- no count stands at the slice's end
  pub read_end : length words ≤ position → read_at words position ≡ End
  unfolding read_at
  read_end h = rw (le-ltb position (length words) h)

  module _ (count : ℕ) (e : count ≡ get_or words position 0) (h : position < length words) where
    -- a count that passes the slice's end
    pub read_short : length words ≤ position + count → read_at words position ≡ Short
    unfolding read_at
    read_short l = rw (lt-ltb position (length words) h, le-ltb (position + get_or words position 0) (length words) (omega arith))

    -- a section that is there
    pub read_section : position + count < length words → read_at words position ≡ Section (position + 1) count
    unfolding read_at
    read_section l = rw (lt-ltb position (length words) h, lt-ltb (position + get_or words position 0) (length words) (omega arith), e)

  -- what is read stands within the slice
  pub read_inside : Inside position (length words) (read_at words position)
  read_inside = go (dec_lt position (length words)) (dec_lt (position + get_or words position 0) (length words))
    where
      go : Dec (position < length words) → Dec (position + get_or words position 0 < length words) → Inside position (length words) (read_at words position)
      go (yes h) (yes l) = subst (Inside position (length words)) (sym (read_section (get_or words position 0) refl h l)) (omega arith)
      go (yes h) (no l) = subst (Inside position (length words)) (sym (read_short (get_or words position 0) refl h (omega arith))) tt
      go (no h) d = subst (Inside position (length words)) (sym (read_end (omega arith))) tt
