-- What the calls write for an input, however it is cut into chunks, is the output of the whole input.
use mathlib.Core.Path.{◌≡◌, refl, ◌∙◌, sym, ap}
use mathlib.Core.Bool.{Bool, true, false, cond}
use Rattle.std.specs.Prelude.{Some, None}
use mathlib.Core.List.{List, [], ◌∷◌, ◌++◌, append_assoc, append-nil, flatten}
use Prim.Native.Nat.{ℕ, ◌+◌, ◌*◌, ◌≤◌, ◌<◌}
use native.Mathlib.Numerals.{add-one}
use native.Mathlib.Omega.{arith}
use lib.Dec.{ltb, eqb}
use lib.ListN.{length, take, get_or, length-append}
use lib.Seq.{take-suc}
use borrow.Author.Tests.{ne_eqb}
use Rattle.zq_lines_text.specs.Text.{is_digit}
use Rattle.zq_lines_text.specs.Line.{answer_to, text}
use Rattle.zq_lines_text.specs.Output.{last_line, lines_after, answer_lines, output}
use Rattle.zq_lines_text.specs.Reading.{none, start, pushed, extended, with, stepped, steps, parsed, answer_of, next, written, after, answers, is_fresh, last}
use Rattle.zq_lines_text.specs.declared.reading.Word.{Word}
use Rattle.zq_lines_text.specs.declared.reading.State.{State}
use Rattle.zq_lines_text.specs.declared.reading.State.TheVariants.{First, Second, Bad}
use Rattle.zq_lines_text.proofs.Parsing.{parsed-steps}
use Rattle.zq_lines_text.proofs.Decimal.{length-text}

-- the state after two runs
pub after-append : (s : State) (xs ys : List ℕ) → after s (xs ++ ys) ≡ after (after s xs) ys
unfolding after
after-append s [] ys = refl
after-append s (x ∷ xs) ys = after-append (next s x) xs ys

-- what two runs have written
pub answers-append : (s : State) (xs ys : List ℕ) → answers s (xs ++ ys) ≡ answers s xs ++ answers (after s xs) ys
unfolding after answers
answers-append s [] ys = refl
answers-append s (x ∷ xs) ys = ap (λ l. written s x ++ l) (answers-append (next s x) xs ys) ∙ sym (append_assoc (written s x) (answers (next s x) xs) (answers (after (next s x) xs) ys))

-- the first i + 1 bytes
take_more : (bs : List ℕ) (i : ℕ) → i < length bs → take (i + 1) bs ≡ take i bs ++ (get_or bs i 0 ∷ [])
take_more bs i h = rw add-one (take-suc bs i 0 h)

-- the state after one byte more of a chunk
pub after-take : (s : State) (bs : List ℕ) (i : ℕ) → i < length bs → after s (take (i + 1) bs) ≡ next (after s (take i bs)) (get_or bs i 0)
unfolding after
after-take s bs i h = ap (after s) (take_more bs i h) ∙ after-append s (take i bs) (get_or bs i 0 ∷ [])

-- what is written after one byte more of a chunk
pub answers-take : (s : State) (bs : List ℕ) (i : ℕ) → i < length bs
    → answers s (take (i + 1) bs) ≡ answers s (take i bs) ++ written (after s (take i bs)) (get_or bs i 0)
unfolding answers
answers-take s bs i h =
    ap (answers s) (take_more bs i h)
    ∙ answers-append s (take i bs) (get_or bs i 0 ∷ [])
    ∙ ap (λ l. answers s (take i bs) ++ l) (append-nil (written (after s (take i bs)) (get_or bs i 0)))

-- an answer and its line feed have at most 56 bytes
length-answer_of : (s : State) → length (answer_of s) ≤ 56
length-answer_of s = rw length-append (omega (arith, length-text (parsed s)))

-- a byte has at most one answer and its line feed written
length-written : (s : State) (b : ℕ) → length (written s b) ≤ 56
length-written s b = by (eqb b 10)
  where
    by : (e : Bool) → length (cond e (answer_of s) []) ≤ 56
    by true = length-answer_of s
    by false = omega arith

-- a run of bytes has at most 56 bytes written for each of its own
pub length-answers : (s : State) (bs : List ℕ) → length (answers s bs) ≤ 56 * length bs
unfolding answers
length-answers s [] = omega arith
length-answers s (b ∷ bs) = rw length-append (omega (arith, length-written s b, length-answers (next s b) bs))

-- the end of the input has at most one answer and its line feed written
pub length_last : (s : State) → length (last s) ≤ 56
length_last s = by (is_fresh s)
  where
    by : (f : Bool) → length (cond f [] (answer_of s)) ≤ 56
    by true = omega arith
    by false = length-answer_of s

-- a line with one byte more at its end
steps_snoc : (s : State) (xs : List ℕ) (b : ℕ) → steps s (xs ++ (b ∷ [])) ≡ stepped (steps s xs) b
unfolding steps
steps_snoc s [] b = refl
steps_snoc s (x ∷ xs) b = steps_snoc (stepped s x) xs b

-- a line that a byte spoils or extends is not fresh
fresh_extended : (go : Word → State) (w : Word) (b : ℕ) → is_fresh (go (pushed w b)) ≡ false → is_fresh (with go (extended w b)) ≡ false
fresh_extended go w b h = by (is_digit b) (ltb w.digits 10)
  where
    by : (d m : Bool) → is_fresh (with go (cond d (cond m (Some (pushed w b)) None) None)) ≡ false
    by true true = h
    by true false = refl
    by false m = refl

-- a line with a byte is not fresh
fresh_stepped : (s : State) (b : ℕ) → is_fresh (stepped s b) ≡ false
unfolding stepped
fresh_stepped (First w) b = by (eqb b 32) (eqb w.digits 0)
  where
    by : (e z : Bool) → is_fresh (cond e (cond z Bad (Second w.value none)) (with First (extended w b))) ≡ false
    by true true = refl
    by true false = refl
    by false z = fresh_extended First w b (ne_eqb (w.digits + 1) 0 (λ h. omega arith))
fresh_stepped (Second a w) b = fresh_extended (Second a) w b refl
fresh_stepped Bad b = refl

-- a line with bytes is not fresh
fresh_steps : (s : State) (b : ℕ) (bs : List ℕ) → is_fresh (steps (stepped s b) bs) ≡ false
unfolding steps
fresh_steps s b [] = fresh_stepped s b
fresh_steps s b (c ∷ bs) = fresh_steps (stepped s b) c bs

-- what the end of the input has written, where a line has begun
last_begun : (b : ℕ) (begun : List ℕ) → last (steps start (b ∷ begun)) ≡ answer_to (b ∷ begun) ++ (10 ∷ [])
unfolding steps
last_begun b begun = rw (fresh_steps start b begun) (ap (λ p. text p ++ (10 ∷ [])) (parsed-steps (b ∷ begun)))

-- what is written from a line on of which `begun` is read
whole : (begun input : List ℕ)
    → answers (steps start begun) input ++ last (after (steps start begun) input) ≡ answer_lines (lines_after begun input)
unfolding answers after lines_after last_line answer_lines steps
whole [] [] = refl
whole (b ∷ begun) [] = last_begun b begun
whole begun (b ∷ bs) = by (eqb b 10) (whole [] bs) (whole (begun ++ (b ∷ [])) bs)
  where
    by : (e : Bool)
        → answers start bs ++ last (after start bs) ≡ answer_lines (lines_after [] bs)
        → answers (steps start (begun ++ (b ∷ []))) bs ++ last (after (steps start (begun ++ (b ∷ []))) bs) ≡ answer_lines (lines_after (begun ++ (b ∷ [])) bs)
        → cond e (answer_of (steps start begun)) [] ++ answers (cond e start (stepped (steps start begun) b)) bs ++ last (after (cond e start (stepped (steps start begun) b)) bs)
        ≡ answer_lines (cond e (begun ∷ lines_after [] bs) (lines_after (begun ++ (b ∷ [])) bs))
    by true here later =
        append_assoc (answer_of (steps start begun)) (answers start bs) (last (after start bs))
        ∙ ap (λ l. answer_of (steps start begun) ++ l) here
        ∙ append_assoc (text (parsed (steps start begun))) (10 ∷ []) (answer_lines (lines_after [] bs))
        ∙ ap (λ p. text p ++ (10 ∷ answer_lines (lines_after [] bs))) (parsed-steps begun)
    by false here later = rw (steps_snoc start begun b) at later

-- one call on a whole input, and the last call, write its output
pub fed_output : (input : List ℕ) → answers start input ++ last (after start input) ≡ output input
unfolding steps
fed_output input = whole [] input

-- what is written for an input in chunks from a state on
unfoldable pub chunked : State → List (List ℕ) → List ℕ
chunked s [] = last s
chunked s (c ∷ cs) = answers s c ++ chunked (after s c) cs

-- the chunks joined are written as one
chunked_joined : (s : State) (cs : List (List ℕ)) → chunked s cs ≡ answers s (flatten cs) ++ last (after s (flatten cs))
unfolding chunked answers after flatten
chunked_joined s [] = refl
chunked_joined s (c ∷ cs) = ap (λ l. answers s c ++ l) (chunked_joined (after s c) cs)
    ∙ rw (answers-append, after-append) (sym (append_assoc (answers s c) (answers (after s c) (flatten cs)) (last (after (after s c) (flatten cs)))))

-- the calls on the chunks of an input, and the last call, write the output of the input
pub chunked_output : (cs : List (List ℕ)) → chunked start cs ≡ output (flatten cs)
chunked_output cs = chunked_joined start cs ∙ fed_output (flatten cs)
