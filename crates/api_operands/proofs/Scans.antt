-- Laws of `below`: the first bad word, and two runs of words joined.
use Rattle.std.proofs.Common.{◌≡◌, refl, sym, ◌∙◌, ap, ℕ, suc, ◌+◌, ◌≤◌, ◌<◌, Bool, true, false, cond, List, [], ◌∷◌, ◌++◌, length, arith}
use Rattle.std.specs.Prelude.{Option, None, Some, Result, Ok, Err, All, position, leb, ltb}
use Rattle.std.specs.List.{position_from}
use Rattle.std.proofs.lemmas.Iterator.Adapters.{position_from-zero}
use native.Mathlib.Nat.{add-zero, zero-add}
use native.Mathlib.Decide.{dec_lt}
use borrow.Author.Tests.{lt-ltb, le-ltb, lt-leb, le-leb}
use Rattle.spec_leaves.specs.declared.answers.OperandError.{OperandError}
use Rattle.spec_leaves.specs.declared.answers.OperandError.TheVariants as O
use Rattle.spec_leaves.specs.Answer.{Answer, fine, refused, below, ◌then◌, of_operand_error, of_operands}
use Rattle.spec_leaves.specs.Zq.{Q}
use Rattle.spec_leaves.specs.Leaf.{canonical_words}

-- the answer where the first bad word has an index, and none is bad where there is none
abbrev pub found : (number place : ℕ) → Option ℕ → Answer
found number place None = fine
found number place (Some i) = refused number (place + i)

-- the search for the first bad word, where the words start at index j
below_from : (limit number place j : ℕ) (words : List ℕ) → below limit number (place + j) words ≡ found number place (position_from (λ w. leb limit w) j words)
unfolding below
below_from limit number place j [] = refl
below_from limit number place j (w ∷ words) = by (dec_lt w limit) (ap (λ p. below limit number p words) next ∙ below_from limit number place (j + 1) words)
  where
    next : place + j + 1 ≡ place + (j + 1)
    next = omega arith

    by : Dec (w < limit)
        → below limit number (place + j + 1) words ≡ found number place (position_from (λ w. leb limit w) (j + 1) words)
        → cond (ltb w limit) (below limit number (place + j + 1) words) (refused number (place + j))
        ≡ found number place (cond (leb limit w) (Some j) (position_from (λ w. leb limit w) (j + 1) words))
    by (yes h) later = rw (lt-ltb w limit h, lt-leb limit w h) later
    by (no h) later =
        let l : limit ≤ w = omega arith in
        rw (le-ltb w limit l, le-leb limit w l)

-- the first bad word is refused at its place, and words without a bad one are fine
pub below_position : (limit number place : ℕ) (words : List ℕ) (r : Option ℕ) → r ≡ position (λ w. leb limit w) words → found number place r ≡ below limit number place words
below_position limit number place words r e =
    ap (found number place) (e ∙ position_from-zero (λ w. leb limit w) words)
    ∙ sym (below_from limit number place 0 words)
    ∙ ap (λ p. below limit number p words) (add-zero place)

-- where every word is below the limit none is found
none_from : (limit j : ℕ) (words : List ℕ) → All (λ w. w < limit) words → position_from (λ w. leb limit w) j words ≡ None
none_from limit j [] h = refl
none_from limit j (w ∷ words) h =
    let first : w < limit = h 0 w (omega arith) in
    rw (lt-leb limit w first) (none_from limit (j + 1) words (λ k d l. h (suc k) d (omega arith)))

pub none_found : (limit : ℕ) (words : List ℕ) → All (λ w. w < limit) words → None ≡ position (λ w. leb limit w) words
none_found limit words h = sym (position_from-zero (λ w. leb limit w) words ∙ none_from limit 0 words h)

-- the answer to two runs, one after the other
pub below-append : (limit number place : ℕ) (a b : List ℕ) → below limit number place (a ++ b) ≡ below limit number place a then below limit number (place + length a) b
unfolding below
below-append limit number place [] b = rw (add-zero place)
below-append limit number place (w ∷ a) b = by (ltb w limit) (below-append limit number (place + 1) a b)
  where
    next : place + 1 + length a ≡ place + suc (length a)
    next = omega arith

    by : (t : Bool) → below limit number (place + 1) (a ++ b) ≡ below limit number (place + 1) a then below limit number (place + 1 + length a) b
        → cond t (below limit number (place + 1) (a ++ b)) (refused number place)
        ≡ cond t (below limit number (place + 1) a) (refused number place) then below limit number (place + suc (length a)) b
    by true ih = ih ∙ ap (λ p. below limit number (place + 1) a then below limit number p b) next
    by false ih = refl

-- an element, and words after it
pub after-element : (a b : List ℕ) → length a ≡ 64 → canonical_words a then below Q 6 64 b ≡ canonical_words (a ++ b)
after-element a b n = ap (λ p. canonical_words a then below Q 6 p b) (sym n ∙ sym (zero-add (length a))) ∙ sym (below-append Q 6 0 a b)

-- what is refused first is refused, whatever comes later
stops : (e : OperandError) (later : Answer) → of_operand_error e ≡ of_operand_error e then later
stops (O.ParameterOutOfLimits p) later = refl
stops (O.Word p) later = refl
stops (O.SignWord p) later = refl
stops (O.BaseOrParts p) later = refl

-- where a first step refuses, the answer is its error
pub refused_first : {r : Result (Unit {0}) OperandError} {e : OperandError} (x later : Answer) → r ≡ Err e → of_operands r ≡ x → of_operand_error e ≡ x then later
refused_first {e = e} x later h o = stops e later ∙ ap (λ y. y then later) (sym (ap of_operands h) ∙ o)

-- where it refuses nothing, the answer is what comes later
pub passed_first : {r : Result (Unit {0}) OperandError} {u : Unit {0}} (x later : Answer) → r ≡ Ok u → of_operands r ≡ x → later ≡ x then later
passed_first x later h o = ap (λ y. y then later) (sym (ap of_operands h) ∙ o)
