-- Bounds of the products of parameters within their limits.
use mathlib.Core.Path.{◌≡◌}
use Prim.Native.Nat.{ℕ, ◌*◌, ◌≤◌, ◌<◌, ◌^◌}
use native.Mathlib.Nat.{mul-le-mul}
use native.Mathlib.Omega.{arith}
use Rattle.spec_protocol.specs.Parameters.{Parameters, T}
use Rattle.spec_protocol.specs.Layout.{span, job_sections, randomness_sections, transcript_sections}
use Rattle.layout_sizes.specs.Sizes.{Sized}

-- the products in which the counts are reckoned; t is at most T's greatest value
pub record Products (P : Parameters) (t : ℕ) : Type 0 where
  pub cells : t ≤ 136
  pub nr : P.n * P.r ≤ 1024
  pub lt : P.l * t ≤ 8704
  pub lr : P.l * P.r ≤ 1024
  pub lrn : P.l * P.r * P.n ≤ 65536
  pub kt : P.K * t ≤ 8704
  pub kr : P.K * P.r ≤ 1024
  pub krn : P.K * P.r * P.n ≤ 65536
  pub κn : P.κ * P.n ≤ 1024
  pub rκ : P.r * P.κ ≤ 256
  pub rκt₁ : P.r * P.κ * P.t₁ ≤ 8192
  pub b_words : P.κ₁ * (P.r * P.κ * P.t₁) ≤ 131072
  pub tt₂ : t * P.t₂ ≤ 4352
  pub c_words : P.κ₁ * (t * P.t₂) ≤ 69632
  pub tt₁ : t * P.t₁ ≤ 4352
  pub d_words : P.κ₂ * (t * P.t₁) ≤ 69632
  pub Ll : P.L * P.l ≤ 2048
  pub Lrn : P.L * (P.r * P.n) ≤ 32768
  pub Lt : P.L * t ≤ 4352

pub products : (P : Parameters) (t : ℕ) → Sized P → t ≤ 136 → Products P t
products P t s h =
    let w = s.within in
    let lr : P.l * P.r ≤ 1024 = mul-le-mul w.l.1 w.r.1 in
    let kr : P.K * P.r ≤ 1024 = mul-le-mul w.K.1 w.r.1 in
    let rn : P.r * P.n ≤ 1024 = mul-le-mul w.r.1 w.n.1 in
    let rκ : P.r * P.κ ≤ 256 = mul-le-mul w.r.1 w.κ.1 in
    let rκt₁ : P.r * P.κ * P.t₁ ≤ 8192 = mul-le-mul rκ w.t₁.1 in
    let tt₁ : t * P.t₁ ≤ 4352 = mul-le-mul h w.t₁.1 in
    let tt₂ : t * P.t₂ ≤ 4352 = mul-le-mul h w.t₂.1 in
    record {
      cells = h;
      nr = mul-le-mul w.n.1 w.r.1;
      lt = mul-le-mul w.l.1 h;
      lr = lr;
      lrn = mul-le-mul lr w.n.1;
      kt = mul-le-mul w.K.1 h;
      kr = kr;
      krn = mul-le-mul kr w.n.1;
      κn = mul-le-mul w.κ.1 w.n.1;
      rκ = rκ;
      rκt₁ = rκt₁;
      b_words = mul-le-mul w.κ₁.1 rκt₁;
      tt₂ = tt₂;
      c_words = mul-le-mul w.κ₁.1 tt₂;
      tt₁ = tt₁;
      d_words = mul-le-mul w.κ₂.1 tt₁;
      Ll = mul-le-mul w.L.1 w.l.1;
      Lrn = mul-le-mul w.L.1 rn;
      Lt = mul-le-mul w.L.1 h;
    }

-- the sections of each slice take few words
module _ (P : Parameters) (t : ℕ) (s : Sized P) (b : Products P t) where
  pub randomness-spans : span (randomness_sections P) < 2 ^ 32
  unfolding span
  randomness-spans = omega (arith, s.within)

  module _ (e : t ≡ T P) where
    pub job-spans : span (job_sections P) < 2 ^ 32
    unfolding span
    job-spans = rw (← e) (omega (arith, s.within))

    pub transcript-spans : span (transcript_sections P) < 2 ^ 32
    unfolding span
    transcript-spans = rw (← e) (omega (arith, s.within))
