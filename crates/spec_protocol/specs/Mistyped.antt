-- Which constant was mistyped (document 02, Item 8, and Item 12 on the order of its list): "A failed check 22 is mostly one wrong entry of b0."
use Rattle.std.specs.Prelude.{◌≡◌, Bool, true, cond, ℕ, ◌-◌, ◌*◌, ◌<◌, ◌≤◌, ltb, eqb, length, drop, replicate}
use mathlib.Core.List.{List, [], ◌∷◌, ◌++◌, flat_map, Memᴰ}
use Rattle.std.proofs.Math.Decide.{dec_le}
use Rattle.spec_leaves.specs.Zq.{Canonical, zadd, is_larger_than_half, size}
use Rattle.spec_leaves.specs.Answer.{Answer, fine, accepted, refused, failed, result_of, ◌then◌}
use Rattle.spec_protocol.specs.Checks.{require}
use Rattle.spec_protocol.specs.Parameters.{Parameters, parameters}
use Rattle.spec_protocol.specs.Layout.{scratch_need}
use Rattle.spec_protocol.specs.Views.{Public, Message, public, message}
use Rattle.spec_protocol.specs.Prover.{zeroed}
use Rattle.spec_protocol.specs.Verifier.{check_22, checks, verify_refusal}

-- "adding one number to b0[l] alone": the public values with x added to entry i of b0
abbrev pub added : Public → (i x : ℕ) → Public
added X i x = record {
  P = X.P;
  a' = X.a';
  φ' = X.φ';
  b₀ = λ m. cond (eqb m i) (zadd (X.b₀ i) x) (X.b₀ m);
  a = X.a;
  φ = X.φ;
  b = X.b;
  A = X.A;
  B = X.B;
  C = X.C;
  D = X.D;
  Π = X.Π;
  psi = X.psi;
  omega = X.omega;
  alpha = X.alpha;
  beta = X.beta;
  c = X.c;
}

module _ (X : Public) (M : Message) where
  -- "would let check 22 pass": x, a word below Q, mends check 22 at index i
  abbrev pub Mends : (i x : ℕ) → Type 0
  Mends i x = Canonical x × (check_22 (added X i x) M ≡ fine)

  -- "It gives the number of smallest centred size": x mends, and no number that mends has a smaller size
  pub record Smallest (i x : ℕ) : Type 0 where
    pub mends : Mends i x
    pub none_smaller : (y : ℕ) → Mends i y → size x ≤ size y

-- "for each entry its index from 0 and then its number"
pub record Entry : Type 0 where
  pub index : ℕ
  pub number : ℕ

-- the lower of two numbers comes first; where they are equal, what is said next decides
abbrev pub by_number : (a b : ℕ) → (next : Bool) → Bool
by_number a b next = cond (eqb a b) next (ltb a b)

-- "negative numbers first" (document 02, Item 12): 0 for a number whose centre is negative, else 1
abbrev pub sign_rank : ℕ → ℕ
sign_rank a = cond (is_larger_than_half a) 0 1

-- "entries of equal size now come with negative numbers first, then by lower l" (document 02, Item 12)
abbrev pub of_equal_size : Entry → Entry → Bool
of_equal_size e f = by_number (sign_rank e.number) (sign_rank f.number) (ltb e.index f.index)

-- whether an entry comes before another: "Smallest size still leads." (document 02, Item 12)
unfoldable pub comes_before : Entry → Entry → Bool
comes_before e f = by_number (size e.number) (size f.number) (of_equal_size e f)

-- entries of which each comes before all that follow it
unfoldable pub Ordered : List Entry → Type 0
Ordered [] = Unit {0}
Ordered (e ∷ es) = ((f : Entry) → Memᴰ f es → comes_before e f ≡ true) × Ordered es

-- the list: "each index l for which adding one number to b0[l] alone would let check 22 pass […] the number of smallest centred size, for each such l once"
pub record Listed (X : Public) (M : Message) (below : ℕ) (es : List Entry) : Type 0 where
  pub ordered : Ordered es
  pub inside : (e : Entry) → Memᴰ e es → e.index < below
  pub smallest : (e : Entry) → Memᴰ e es → Smallest X M e.index e.number
  pub all : (i x : ℕ) → i < below → Mends X M i x → (y : ℕ) × Memᴰ (record { index = i; number = y }) es

-- "The list needs 2·l words"
abbrev pub list_need : Parameters → ℕ
list_need P = 2 * P.l

-- "After the verifier's refusals […] with 2 right after 1"
unfoldable pub mistyped_refusal : (J R T : List ℕ) → (scratch list : ℕ) → Answer
mistyped_refusal J R T scratch list =
    let need = list_need (parameters J) in
    verify_refusal J R T scratch then require (dec_le need list) (refused 2 need)

-- "33 where the list would be empty", "at place 0"
abbrev pub some_entry : List Entry → Answer
some_entry [] = refused 33 0
some_entry (e ∷ es) = fine

-- "After the verifier's refusals, 14 to 16 included […] it refuses with 32 where check 22 isn't the failed one, and with 33 where the list would be empty, both at place 0."
abbrev pub judged : (verdict : Answer) → List Entry → Answer
judged fine es = refused 32 0
judged (accepted cells) es = refused 32 0
judged (refused n p) es = refused n p
judged (failed n vs) es = cond (eqb n 22) (some_entry es) (refused 32 0)

-- what the verifier's checks answer
abbrev pub verdict_of : (J R T : List ℕ) → Answer
verdict_of J R T = checks (public J R) (message (parameters J) T)

-- what the call answers, of the entries that are asked for
unfoldable pub mistyped : (J R T : List ℕ) → (scratch list : ℕ) → List Entry → Answer
mistyped J R T scratch list es = mistyped_refusal J R T scratch list then judged (verdict_of J R T) es

-- the words of entries
abbrev pub entry_words : List Entry → List ℕ
entry_words es = flat_map (λ e. e.index ∷ e.number ∷ []) es

-- "Words past the last entry are zero": the entries' words and zeros in the first words of a list
abbrev pub written : (need : ℕ) → List Entry → List ℕ → List ℕ
written need es list = (entry_words es ++ replicate (need - length (entry_words es)) 0) ++ drop need list

-- the list at exit: the entries; "all 2·l are zero where the work ends without a list"; a refusal before the work leaves it
unfoldable pub mistyped_list : (J R T : List ℕ) → (scratch : ℕ) → (list : List ℕ) → List Entry → List ℕ
mistyped_list J R T scratch list es =
    let need = list_need (parameters J) in
    result_of (mistyped_refusal J R T scratch (length list)) (written need (result_of (judged (verdict_of J R T) es) es []) list) list

-- the scratch at exit: "After any later answer scratch is zero to the length needed"
unfoldable pub mistyped_scratch : (J R T scratch : List ℕ) → (list : ℕ) → List ℕ
mistyped_scratch J R T scratch list =
    result_of (mistyped_refusal J R T (length scratch) list) (zeroed (scratch_need (parameters J)) scratch) scratch
