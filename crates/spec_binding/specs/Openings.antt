-- What two openings of one commitment give away (document 02, Item 13). An opening of u1 is the digits of t and g, an opening of u2 those of h.
use Rattle.std.specs.Prelude.{◌≡◌, cond, List, [], ◌++◌, ℕ, ◌+◌, ◌-◌, ◌*◌, ◌≤◌, ◌<◌, ltb, length, get_or}
use Rattle.math.specs.lists.Table.{table}
use Rattle.spec_leaves.specs.Answer.{accepted}
use Rattle.spec_leaves.specs.Rq.{Element}
use Rattle.spec_leaves.specs.Ring.{RqOps}
use Rattle.spec_protocol.specs.Parameters.{parameters, T}
use Rattle.spec_protocol.specs.Views.{public, Message, message}
use Rattle.spec_protocol.specs.Formulas.{◌⊕◌, norm_of, times, t_digits, g_digits, h_digits}
use Rattle.spec_protocol.specs.Verifier.{verify}

-- zero, the negative and the entries of a vector
abbrev pub nil : Element
nil = RqOps.nil

abbrev pub neg : Element → Element
neg = RqOps.neg

abbrev pub entry : List Element → ℕ → Element
entry v m = get_or v m nil

-- "the difference of those digits": of two vectors, entry by entry in Rq
unfoldable pub difference : List Element → List Element → List Element
difference v w = table (length v) (λ m. entry v m ⊕ neg (entry w m))

-- "B and C side by side": the first columns are those of the first matrix
unfoldable pub beside : ℕ → (ℕ → ℕ → Element) → (ℕ → ℕ → Element) → ℕ → ℕ → Element
beside width M N k m = cond (ltb m width) (M k m) (N k (m - width))

-- "a nonzero vector that" a matrix of so many rows and columns sends "to zero, and its squared norm is at most" a bound
pub record ShortKernel (M : ℕ → ℕ → Element) (rows columns bound : ℕ) (v : List Element) : Type 0 where
  pub size : length v ≡ columns
  pub nonzero : ((m : ℕ) → m < columns → entry v m ≡ nil) → ⊥
  pub to_zero : (k : ℕ) → k < rows → times M v k ≡ nil
  pub short : norm_of v ≤ bound

-- of a job
module _ (J : List ℕ) where
  open parameters J use {r, κ, t₁, t₂}
  open public J [] use {B, C}

  -- the columns of B, of C and of D
  abbrev pub columns_B : ℕ
  columns_B = r * κ * t₁

  abbrev pub columns_C : ℕ
  columns_C = T (parameters J) * t₂

  abbrev pub columns_D : ℕ
  columns_D = T (parameters J) * t₁

  -- "B and C side by side"
  abbrev pub B_beside_C : ℕ → ℕ → Element
  B_beside_C = beside columns_B B C

  -- the message of a transcript
  abbrev pub sent : List ℕ → Message
  sent X = message (parameters J) X

  -- "digits of t and g", and "the digits of h", of a transcript
  unfoldable pub opening_1 : List ℕ → List Element
  opening_1 X = t_digits (public J []) (sent X).t ++ g_digits (public J []) (sent X).g

  unfoldable pub opening_2 : List ℕ → List Element
  opening_2 X = h_digits (public J []) (sent X).h

  -- "their u1 is equal", "the like holds for equal u2"
  abbrev pub EqualU1 : List ℕ → List ℕ → Type 0
  EqualU1 X Y = (k : ℕ) → k < (parameters J).κ₁ → (sent X).u₁ k ≡ (sent Y).u₁ k

  abbrev pub EqualU2 : List ℕ → List ℕ → Type 0
  EqualU2 X Y = (k : ℕ) → k < (parameters J).κ₂ → (sent X).u₂ k ≡ (sent Y).u₂ k

  -- "at most four times beta_prime_sq"
  abbrev pub four_times : ℕ
  four_times = 4 * (parameters J).beta_prime_sq

  -- what two openings of u1 give away, and two of u2: the vector that is computed from the two transcripts
  abbrev pub GivenAway1 : List ℕ → List ℕ → Type 0
  GivenAway1 X Y = ShortKernel B_beside_C (parameters J).κ₁ (columns_B + columns_C) four_times (difference (opening_1 X) (opening_1 Y))

  abbrev pub GivenAway2 : List ℕ → List ℕ → Type 0
  GivenAway2 X Y = ShortKernel (public J []).D (parameters J).κ₂ columns_D four_times (difference (opening_2 X) (opening_2 Y))

  -- "two transcripts are accepted under the same job, with any randomness": one of them, with any scratch, and the number that the verdict holds
  pub record Accepted (X : List ℕ) (cells : ℕ) : Type 0 where
    pub randomness : List ℕ
    pub scratch : ℕ
    pub verdict : verify J randomness X scratch ≡ accepted cells

  -- two transcripts with the same t and g, and with the same h: each cell of a triangle with j up to i
  pub record SameTG (X Y : List ℕ) : Type 0 where
    pub of_t : (i k : ℕ) → i < r → k < κ → (sent X).t i k ≡ (sent Y).t i k
    pub of_g : (i j : ℕ) → i < r → j ≤ i → (sent X).g i j ≡ (sent Y).g i j

  abbrev pub SameH : List ℕ → List ℕ → Type 0
  SameH X Y = (i j : ℕ) → i < r → j ≤ i → (sent X).h i j ≡ (sent Y).h i j
