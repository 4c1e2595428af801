-- What the steps of the prover's commitments need, store and answer.
use Rattle.std.specs.Prelude.{Result, Ok, Err, OnOk}
use mathlib.Core.Path.{◌≡◌, refl, sym, ap, subst, ◌∙◌}
use mathlib.Core.Bool.{Bool, cond}
use mathlib.Core.List.{List, []}
use Prim.Native.Nat.{ℕ, ◌+◌, ◌*◌, ◌≤◌, ◌<◌, ◌^◌}
use native.Mathlib.Nat.{le-div_iff_mul-le, mul-le-mul_right}
use native.Mathlib.Decide.{dec_le}
use native.Mathlib.Omega.{arith}
use lib.Dec.{leb}
use lib.ListN.{length}
use Rattle.math.specs.lists.Table.{table}
use Rattle.math.specs.lists.Part.{splice}
use Rattle.math.proofs.lists.Table.{table_ext}
use Rattle.math.proofs.lists.Splice.{length-splice}
use Rattle.spec_leaves.specs.declared.answers.Refusal.{Refusal}
use Rattle.spec_leaves.specs.Answer.{Answer, fine, refused, ◌then◌}
use Rattle.spec_protocol.specs.Checks.{require, first}
use Rattle.spec_protocol.specs.Parameters.{Parameters, parameters, T, triangular}
use Rattle.spec_protocol.specs.Layout.{start, job_sections, witness_sections, scratch_need}
use Rattle.spec_protocol.specs.Formulas as F
use Rattle.spec_protocol.specs.Formulas.{flat, rows, triangle, norm_of}
use Rattle.spec_protocol.specs.Prover.{witness_norm}
use Rattle.spec_protocol.specs.Region.{Triangle}
use Rattle.spec_protocol.proofs.Then.{then_assoc}
use Rattle.spec_protocol.proofs.ReadBack.{g_symmetric, h_symmetric}
use Rattle.ring_rq_matrix.specs.Region.{gram}
use Rattle.ntt_vectors.specs.NttForm.{ntt_words, NttForm, AllValues}
use Rattle.ntt_vectors.proofs.Stored.{length-ntt_words}
use Rattle.ntt_vectors.proofs.Laws.{ntt_form-values}
use Rattle.core_garbage_ntt.specs.NttGarbage.{ntt_gram}
use Rattle.core_garbage_ntt.proofs.Laws.{g-ntt}
use Rattle.commitments_ajtai.specs.Spread.{ColumnsRoom}
use Rattle.core_garbage_ntt.specs.NttLines.{HRoom}
use Rattle.commitments_outer.specs.Cells.{digits_at, vector_norm, Room, commitments_of}
use Rattle.commitments_outer.proofs.Answers.{require-leb}
use Rattle.commitments_outer.proofs.Formula.{digits, t_is, witness_norm_is, t_norm_is, g_norm_is, h_norm_is}
use Rattle.core_garbage_polynomials.specs.Garbage.{h_of}
use Rattle.core_garbage_polynomials.proofs.Formula.{g_formula, h_formula}
use Rattle.core_aggregate.specs.Weighed.{formed}
use Rattle.core_aggregate.proofs.Formed.{b''_is}
use Rattle.layout_regions.specs.declared.Regions.{Regions}
use Rattle.relation_env_params.specs.declared.env_params.EnvironmentParameters.{EnvironmentParameters}
use Rattle.relation_env_params.specs.Parameters.{parameters_of}
use Rattle.core_workspace.specs.Holds.{Holds, Unchanged}
use Rattle.core_workspace.specs.Aggregated.{a''_words, φ''_words, φ_words}
use Rattle.core_workspace.proofs.Holds.{holds-stored, holds-before, holds_after, holds_unchanged, vectors-held, triangle-held, vectors_list-held, triangle_list-held}
use Rattle.core_workspace.proofs.Unchanged.{unchanged_refl, unchanged_trans, unchanged_weaken, unchanged_splice, unchanged_stored}
use Rattle.core_workspace.proofs.Aggregated.{a''_symmetric}
use Rattle.core_workspace.proofs.Ready.{ready-changed, regions_end, A-within, φ''-end, a''-end, φ-end, a-end, g_end, c-end, t-end, u-end, b''-end}
use Rattle.prover_commit.specs.Words.{statement, X, s, t_words, g_words, b''_words, h_words}
use Rattle.prover_commit.specs.Refusals.{t_refusal, g_refusal, h_refusal, first_refusal, t_check, g_check, h_check}
use Rattle.prover_commit.specs.Work.{WorkGiven, ReadyForH, with_h}
use Rattle.prover_commit.proofs.Lengths.{length-h}
use Rattle.prover_commit.proofs.Room.{placed}

-- the witness's words stand after their count
witness-start : (P : Parameters) → start (witness_sections P) 0 ≡ 1
unfolding start
witness-start P = refl

-- what is stored, in the scratch that it was stored into
pub held-stored : (S S' : List ℕ) (at : ℕ) (ws : List ℕ) → S' ≡ splice S at ws → at + length ws ≤ length S → Holds S' at ws
held-stored S S' at ws e l = subst (λ x. Holds x at ws) (sym e) (holds-stored S at ws l)

-- what stands before it
pub held-before : (S S' : List ℕ) (to : ℕ) (new : List ℕ) → S' ≡ splice S to new → (at : ℕ) (ws : List ℕ) → at + length ws ≤ to → Holds S at ws → Holds S' at ws
held-before S S' to new e at ws l h = subst (λ x. Holds x at ws) (sym e) (holds-before S at ws to new l h)

-- what stands after it
pub held_after : (S S' : List ℕ) (to : ℕ) (new : List ℕ) → S' ≡ splice S to new → (at : ℕ) (ws : List ℕ) → to + length new ≤ at → Holds S at ws → Holds S' at ws
held_after S S' to new e at ws l h = subst (λ x. Holds x at ws) (sym e) (holds_after S at ws to new l h)

-- a fact that holds in any case
pub where_made : (r : Result Unit Refusal) {fact : Type 0} → fact → OnOk r fact
where_made (Ok v) h = h
where_made (Err e) h = tt

-- a test of the norm of cells' digits as a boolean
pub bounded : (norm bound : ℕ) (answer : Answer) (b : Bool) → b ≡ leb norm bound → (v : Bool) → b ≡ v → cond v fine answer ≡ require (dec_le norm bound) answer
bounded norm bound answer b e v w = ap (λ x. cond x fine answer) (sym w ∙ e) ∙ sym (require-leb norm bound answer)

-- what a call hands the steps
module _ (J W : List ℕ) (params : EnvironmentParameters) (regions : Regions) (S : List ℕ) (h : WorkGiven J W params regions S) where
  abbrev P : Parameters
  P = parameters J

  witness_fits : 1 + 64 * (P.r * P.n) ≤ length W
  witness_fits = subst (λ k. k + 64 * (P.r * P.n) ≤ length W) (witness-start P) h.witness

  -- the same with a scratch of the same length
  pub given-changed : (S' : List ℕ) → length S' ≡ length S → WorkGiven J W params regions S'
  given-changed S' e = record { ready = ready-changed J params regions S h.ready S' e; witness = h.witness }

  -- the ends of the regions within the scratch
  pub t_room : regions.t + 64 * (P.r * P.κ) ≤ scratch_need P
  t_room = omega (arith, t-end J params regions S h.ready, u-end J params regions S h.ready, regions_end J params regions S h.ready)

  pub g_room : regions.g + 64 * T P ≤ scratch_need P
  g_room = omega (arith, g_end J params regions S h.ready, c-end J params regions S h.ready, t_room)

  pub a-room : regions.a_or_h + 64 * T P ≤ scratch_need P
  a-room = omega (arith, a-end J params regions S h.ready, g_room)

  -- 13: what `check_witness` needs with the rank's limit, and what it answers
  pub witness-checks : (1 + 64 * (params.multiplicity * params.rank) ≤ length W) × (params.rank ≤ 2 ^ 18)
  witness-checks = subst (λ Q. (1 + 64 * (Q.r * Q.n) ≤ length W) × (Q.n ≤ 2 ^ 18)) (sym h.ready.same) (witness_fits, omega (arith, h.ready.sound.within.n.1))

  abbrev tested : Answer
  tested = first params.multiplicity (vector_norm W 1 params.rank params.bound_a)

  witness-answer : tested ≡ witness_norm (statement J) (s J W)
  witness-answer =
      ap (λ (Q : Parameters). first Q.r (vector_norm W 1 Q.n Q.bound_A)) h.ready.same
      ∙ ap (λ k. first P.r (vector_norm W k P.n P.bound_A)) (sym (witness-start P))
      ∙ witness_norm_is J [] W

  -- then 14 and 15
  pub first_is : tested then (t_refusal J W then g_refusal J W) ≡ first_refusal J W
  unfolding first_refusal
  first_is = ap (λ a. a then (t_refusal J W then g_refusal J W)) witness-answer ∙ sym (then_assoc (witness_norm (statement J) (s J W)) (t_refusal J W) (g_refusal J W))

  -- "5 aggregations fewer than 128/log_q rounded up": there are at least 4
  four : 4 ≤ P.L
  four = omega (
    arith,
    h.ready.sound.aggregated,
    (le-div_iff_mul-le {k = P.log_q} {x = 4} {y = 127 + P.log_q} (omega (arith, h.ready.sound.within.log_q.0))).1
        (omega (arith, h.ready.sound.within.log_q.1)),
  )

  -- the region of φ'' has room for the values of the witness's vectors, and that of a'' for a square of r rows
  pub values-room : regions.phi2 + 192 * (P.r * P.n) ≤ regions.a2
  values-room = omega (arith, φ''-end J params regions S h.ready, mul-le-mul_right (P.r * P.n) four)

  square-room : regions.a2 + 64 * (P.r * P.r) ≤ regions.phi
  square-room = omega (arith, a''-end J params regions S h.ready, mul-le-mul_right (T P) four)

  a''-below-g : regions.a2 ≤ regions.g
  a''-below-g = omega (arith, a''-end J params regions S h.ready, φ-end J params regions S h.ready, a-end J params regions S h.ready)

  g-before-t : regions.g ≤ regions.t
  g-before-t = omega (arith, g_end J params regions S h.ready, c-end J params regions S h.ready)

  -- the values by the code's parameters
  pub values-end : regions.phi2 + length (ntt_words W 1 (params.multiplicity * params.rank)) ≤ regions.g
  values-end = subst (λ Q. regions.phi2 + length (ntt_words W 1 (Q.r * Q.n)) ≤ regions.g) (sym h.ready.same) (omega (arith, length-ntt_words W 1 (P.r * P.n), values-room, a''-below-g))

  -- the values of the witness's vectors
  abbrev vs : List ℕ
  vs = ntt_words W 1 (params.multiplicity * params.rank)

  -- t: what `t_of` needs, and what it stores
  pub t_fits : (at : ℕ) → at ≡ 31 + start (job_sections (parameters_of params)) 6
      → (at + 64 * (params.kappa * params.rank) ≤ length J) × (1 + 64 * (params.multiplicity * params.rank) ≤ length W)
      × ColumnsRoom S params.kappa params.rank params.multiplicity regions.phi2 regions.t
  t_fits at e =
      subst (λ k. (k + 64 * (params.kappa * params.rank) ≤ length J) × (1 + 64 * (params.multiplicity * params.rank) ≤ length W)
      × ColumnsRoom S params.kappa params.rank params.multiplicity regions.phi2 regions.t) (sym e)
      (subst (λ Q. (31 + start (job_sections Q) 6 + 64 * (Q.κ * Q.n) ≤ length J) × (1 + 64 * (Q.r * Q.n) ≤ length W) × ColumnsRoom S Q.κ Q.n Q.r regions.phi2 regions.t)
      (sym h.ready.same) (
        A-within J params regions S h.ready,
        witness_fits,
        (
          omega (arith, values-room, a''-below-g, g-before-t),
          omega (arith, t_room, h.ready.room),
          omega (arith, h.ready.sound.within.κ.1),
          h.ready.sound.within.n.1,
          omega (arith, h.ready.sound.within.r.1),
        ),
      ))

  -- the words of t, from the place of A
  pub t_made : (S₀ S' : List ℕ) (at : ℕ) → at ≡ 31 + start (job_sections (parameters_of params)) 6
      → S' ≡ splice S₀ regions.t (commitments_of J at params.kappa params.rank W 1 params.multiplicity) → S' ≡ splice S₀ regions.t (t_words J W)
  t_made S₀ S' at e w =
      w
      ∙ ap (splice S₀ regions.t)
      (ap (λ k. commitments_of J k params.kappa params.rank W 1 params.multiplicity) e
      ∙ ap (λ Q. commitments_of J (31 + start (job_sections Q) 6) Q.κ Q.n W 1 Q.r) h.ready.same
      ∙ ap (λ k. commitments_of J (31 + start (job_sections P) 6) P.κ P.n W k P.r) (sym (witness-start P))
      ∙ ap (λ f. flat (rows P.r P.κ f)) (t_is J [] W))

  -- and what `commit_all` needs
  pub t_plain_fits : (at : ℕ) → at ≡ 31 + start (job_sections (parameters_of params)) 6
      → Room J at (params.kappa * params.rank) × Room W 1 (params.multiplicity * params.rank) × Room S regions.t (params.multiplicity * params.kappa)
      × (params.rank ≤ 64) × (params.kappa ≤ 64)
  t_plain_fits at e = let k = t_fits at e in (k.0, k.1, k.2.1, k.2.3, k.2.2)

  -- g: what `compute_g` needs, and what it stores
  pub g_fits : NttForm S regions.phi2 W 1 (params.multiplicity * params.rank)
      → AllValues S regions.phi2 (params.multiplicity * params.rank) × (regions.phi2 + 192 * (params.multiplicity * params.rank) ≤ regions.g)
      × (regions.g + 64 * triangular params.multiplicity ≤ length S) × (params.multiplicity ≤ 64) × (params.rank ≤ 64)
  g_fits k =
      let fits : (regions.phi2 + 192 * (params.multiplicity * params.rank) ≤ regions.g) × (regions.g + 64 * triangular params.multiplicity ≤ length S)
      × (params.multiplicity ≤ 64) × (params.rank ≤ 64) =
      subst (λ Q. (regions.phi2 + 192 * (Q.r * Q.n) ≤ regions.g) × (regions.g + 64 * T Q ≤ length S) × (Q.r ≤ 64) × (Q.n ≤ 64)) (sym h.ready.same)
      (omega (arith, values-room, a''-below-g), omega (arith, g_room, h.ready.room), omega (arith, h.ready.sound.within.r.1), h.ready.sound.within.n.1) in
      (ntt_form-values S regions.phi2 W 1 (params.multiplicity * params.rank) k, fits.0, fits.1, fits.2, fits.3)

  g_is : flat (triangle params.multiplicity (gram W 1 params.rank)) ≡ g_words J W
  g_is =
      ap (λ Q. flat (triangle Q.r (gram W 1 Q.n))) h.ready.same
      ∙ ap (λ k. flat (triangle P.r (gram W k P.n))) (sym (witness-start P))
      ∙ ap flat (g_formula J [] W)

  pub g-made : (S' : List ℕ) → NttForm S regions.phi2 W 1 (params.multiplicity * params.rank)
      → S' ≡ splice S regions.g (flat (triangle params.multiplicity (ntt_gram S regions.phi2 params.rank))) → S' ≡ splice S regions.g (g_words J W)
  g-made S' k w = w ∙ ap (splice S regions.g) (ap flat (g-ntt S regions.phi2 W 1 params.multiplicity params.rank (g_fits k).4 k) ∙ g_is)

  -- the same by plain inner products
  pub g_plain_fits : (1 + 64 * (params.multiplicity * params.rank) ≤ length W) × (regions.g + 64 * triangular params.multiplicity ≤ length S) × (params.multiplicity ≤ 64) × (params.rank ≤ 64)
  g_plain_fits =
      subst (λ Q. (1 + 64 * (Q.r * Q.n) ≤ length W) × (regions.g + 64 * T Q ≤ length S) × (Q.r ≤ 64) × (Q.n ≤ 64)) (sym h.ready.same)
      (witness_fits, omega (arith, g_room, h.ready.room), omega (arith, h.ready.sound.within.r.1), h.ready.sound.within.n.1)

  pub g_plain-made : (S' : List ℕ) → S' ≡ splice S regions.g (flat (triangle params.multiplicity (gram W 1 params.rank))) → S' ≡ splice S regions.g (g_words J W)
  g_plain-made S' w = w ∙ ap (splice S regions.g) g_is

  -- h: what its making needs
  h_fits : (1 + 64 * (params.multiplicity * params.rank) ≤ length W) × HRoom S params.multiplicity params.rank regions.phi2 regions.a2 regions.phi regions.a_or_h
  h_fits =
      subst (λ Q. (1 + 64 * (Q.r * Q.n) ≤ length W) × HRoom S Q.r Q.n regions.phi2 regions.a2 regions.phi regions.a_or_h) (sym h.ready.same) (
        witness_fits,
        (
          values-room,
          square-room,
          φ-end J params regions S h.ready,
          omega (arith, a-room, h.ready.room),
          h.ready.sound.within.n.1,
          omega
              (arith, h.ready.sound.within.r.1),
        ),
      )

  pub ready_for-h : ReadyForH W params regions S
  ready_for-h = record { placed = placed J params regions S h.ready; witness = h_fits.0; room = h_fits.1 }

  -- a scratch with φ, into which h was stored
  module _ (R S' : List ℕ) (φ : Holds S regions.phi (φ_words J R)) (unchanged : Unchanged regions.phi (with_h W params regions S) S') where
    h_is : with_h W params regions S ≡ splice S regions.a_or_h (h_words J R W)
    h_is =
        ap (splice S regions.a_or_h)
        (ap (λ Q. flat (triangle Q.r (h_of S regions.phi W 1 Q.n))) h.ready.same
        ∙ ap (λ k. flat (triangle P.r (h_of S regions.phi W k P.n))) (sym (witness-start P))
        ∙ ap flat (h_formula J R W S regions.phi (vectors-held S regions.phi P.r P.n (F.φ_sum (X J R)) φ)))

    from-φ : Unchanged regions.phi (splice S regions.a_or_h (h_words J R W)) S'
    from-φ = subst (λ l. Unchanged regions.phi l S') h_is unchanged

    φ-first : regions.phi ≤ regions.a_or_h
    φ-first = omega (arith, φ-end J params regions S h.ready)

    h-end : regions.a_or_h + length (h_words J R W) ≤ regions.g
    h-end = omega (arith, length-h J R W, a-end J params regions S h.ready)

    pub given-h : WorkGiven J W params regions S'
    given-h = given-changed S' (unchanged.size ∙ ap length h_is ∙ length-splice S regions.a_or_h (h_words J R W))

    pub held-h : Holds S' regions.a_or_h (h_words J R W)
    held-h =
        holds_unchanged regions.phi (splice S regions.a_or_h (h_words J R W)) S' regions.a_or_h (h_words J R W) from-φ φ-first
        (holds-stored S regions.a_or_h (h_words J R W) (omega (arith, h-end, g_room, h.ready.room)))

    pub unchanged_h : Unchanged (scratch_need P) S S'
    unchanged_h =
        unchanged_trans (scratch_need P) S (splice S regions.a_or_h (h_words J R W)) S' (unchanged_splice (scratch_need P) S regions.a_or_h (h_words J R W) (omega (arith, h-end, g_room)))
        (unchanged_weaken regions.phi (scratch_need P) (splice S regions.a_or_h (h_words J R W)) S' (omega (arith, φ-first, h-end, g_room)) from-φ)

    -- what stands from g on is as it was
    pub stands_h : (at : ℕ) (ws : List ℕ) → regions.g ≤ at → Holds S at ws → Holds S' at ws
    stands_h at ws l k =
        holds_unchanged regions.phi (splice S regions.a_or_h (h_words J R W)) S' at ws from-φ (omega (arith, φ-first, h-end, l))
        (holds_after S at ws regions.a_or_h (h_words J R W) (omega (arith, h-end, l)) k)

  -- b'': what `b_double_prime` needs, and what it stores from a'', g and φ''
  pub b''_fits : (regions.a2 + 64 * (params.const_agg_length * triangular params.multiplicity) ≤ regions.b2) × (regions.g + 64 * triangular params.multiplicity ≤ regions.b2)
      × (regions.phi2 + 64 * (params.const_agg_length * (params.multiplicity * params.rank)) ≤ regions.b2)
      × (regions.b2 + 64 * params.const_agg_length ≤ length S) × (1 + 64 * (params.multiplicity * params.rank) ≤ length W) × (params.multiplicity ≤ 64) × (params.rank ≤ 64)
  b''_fits =
      let k = h.ready in
      let gb : regions.g + 64 * T P ≤ regions.b2 = omega (arith, g_end J params regions S k, c-end J params regions S k, t-end J params regions S k, u-end J params regions S k) in
      let ag : regions.a2 + 64 * (P.L * T P) ≤ regions.g = omega (arith, a''-end J params regions S k, φ-end J params regions S k, a-end J params regions S k) in
      let φa : regions.phi2 + 64 * (P.L * (P.r * P.n)) ≤ regions.a2 = φ''-end J params regions S k in
      subst (λ Q. (regions.a2 + 64 * (Q.L * T Q) ≤ regions.b2) × (regions.g + 64 * T Q ≤ regions.b2) × (regions.phi2 + 64 * (Q.L * (Q.r * Q.n)) ≤ regions.b2)
      × (regions.b2 + 64 * Q.L ≤ length S) × (1 + 64 * (Q.r * Q.n) ≤ length W) × (Q.r ≤ 64) × (Q.n ≤ 64))
      (sym k.same) (
        omega (arith, ag, gb),
        gb,
        omega (arith, φa, ag, gb),
        omega (arith, b''-end J params regions S k, k.sound.within.L.1),
        witness_fits,
        omega (arith, k.sound.within.r.1),
        k.sound.within.n.1,
      )

  -- g, whatever the randomness
  g_stands : (R : List ℕ) → Holds S regions.g (g_words J W) → Triangle S regions.g P.r (F.g (X J R) (s J W))
  unfolding F.g
  g_stands R g = triangle-held S regions.g P.r (F.g (X J R) (s J W)) (g_symmetric (X J R) (s J W)) g

  pub b''-made : (R S' : List ℕ) → Holds S regions.phi2 (φ''_words J R) → Holds S regions.a2 (a''_words J R) → Holds S regions.g (g_words J W)
      → S' ≡ splice S regions.b2 (flat
      (table params.const_agg_length
      (λ k. formed S (regions.a2 + 64 * (k * triangular params.multiplicity)) regions.g (regions.phi2 + 64 * (k * (params.multiplicity * params.rank)))
      params.multiplicity params.rank W 1))) → S' ≡ splice S regions.b2 (b''_words J R W)
  b''-made R S' φ a g w =
      w
      ∙ ap (splice S regions.b2)
      (ap (λ Q. flat (table Q.L (λ k. formed S (regions.a2 + 64 * (k * T Q)) regions.g (regions.phi2 + 64 * (k * (Q.r * Q.n))) Q.r Q.n W 1))) h.ready.same
      ∙ ap (λ x. flat (table P.L (λ k. formed S (regions.a2 + 64 * (k * T P)) regions.g (regions.phi2 + 64 * (k * (P.r * P.n))) P.r P.n W x))) (sym (witness-start P))
      ∙ ap flat (table_ext P.L (λ k. formed S (regions.a2 + 64 * (k * T P)) regions.g (regions.phi2 + 64 * (k * (P.r * P.n))) P.r P.n W (start (witness_sections P) 0))
      (F.b'' (X J R) (s J W)) (λ k l. one k l)))
    where
      one : (k : ℕ) → k < P.L → formed S (regions.a2 + 64 * (k * T P)) regions.g (regions.phi2 + 64 * (k * (P.r * P.n))) P.r P.n W (start (witness_sections P) 0) ≡ F.b'' (X J R) (s J W) k
      one k l =
          b''_is J R W S (regions.a2 + 64 * (k * T P)) regions.g (regions.phi2 + 64 * (k * (P.r * P.n))) k
          (triangle_list-held S regions.a2 P.L P.r (F.a'' (X J R)) (a''_symmetric J R) a k l)
          (g_stands R g)
          (vectors_list-held S regions.phi2 P.L P.r P.n (F.φ'' (X J R)) φ k l)

  -- the norm tests of the cells of t, g and h are those of the formulas
  pub t_checked : Holds S regions.t (t_words J W) → t_check params regions S ≡ t_refusal J W
  unfolding t_refusal
  t_checked t =
      ap (λ Q. require (dec_le (norm_of (digits_at S (digits regions.t (Q.r * Q.κ) Q.t₁) Q.b)) Q.bound_B) (refused 14 0)) h.ready.same
      ∙ require-leb (norm_of (digits_at S (digits regions.t (P.r * P.κ) P.t₁) P.b)) P.bound_B (refused 14 0)
      ∙ sym (t_norm_is J [] S regions.t (F.t (statement J) (s J W)) (vectors-held S regions.t P.r P.κ (F.t (statement J) (s J W)) t))

  pub g_checked : Holds S regions.g (g_words J W) → g_check params regions S ≡ g_refusal J W
  unfolding g_refusal
  g_checked g =
      ap (λ Q. require (dec_le (norm_of (digits_at S (digits regions.g (T Q) Q.t₂) Q.b)) Q.bound_C) (refused 15 0)) h.ready.same
      ∙ require-leb (norm_of (digits_at S (digits regions.g (T P) P.t₂) P.b)) P.bound_C (refused 15 0)
      ∙ sym (g_norm_is J [] S regions.g (F.g (statement J) (s J W)) (triangle-held S regions.g P.r (F.g (statement J) (s J W)) (g_symmetric (statement J) (s J W)) g))

  pub h_checked : (R : List ℕ) → Holds S regions.a_or_h (h_words J R W) → h_check params regions S ≡ h_refusal J R W
  unfolding h_refusal
  h_checked R d =
      ap (λ Q. require (dec_le (norm_of (digits_at S (digits regions.a_or_h (T Q) Q.t₁) Q.b)) Q.bound_D) (refused 16 0)) h.ready.same
      ∙ require-leb (norm_of (digits_at S (digits regions.a_or_h (T P) P.t₁) P.b)) P.bound_D (refused 16 0)
      ∙ sym (h_norm_is J R S regions.a_or_h (F.h (X J R) (s J W)) (triangle-held S regions.a_or_h P.r (F.h (X J R) (s J W)) (h_symmetric (X J R) (s J W)) d))

  -- the values stored
  pub values_unchanged : Unchanged (scratch_need P) S (splice S regions.phi2 vs)
  values_unchanged = unchanged_stored (scratch_need P) S S (splice S regions.phi2 vs) regions.phi2 vs (unchanged_refl (scratch_need P) S) refl (omega (arith, values-end, g_room))
