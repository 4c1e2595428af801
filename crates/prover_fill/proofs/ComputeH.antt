-- What the making of h needs and leaves, by either way.
use mathlib.Core.Path.{◌≡◌, refl, sym, ap, subst, ◌∙◌}
use mathlib.Core.Logic.{inl}
use mathlib.Core.List.{List}
use Prim.Native.Nat.{ℕ, ◌+◌, ◌*◌, ◌≤◌}
use native.Mathlib.Omega.{arith}
use lib.ListN.{length}
use Rattle.math.specs.lists.Part.{splice}
use Rattle.math.proofs.lists.Splice.{length-splice}
use Rattle.spec_leaves.specs.Rq.{Element}
use Rattle.spec_protocol.specs.Formulas.{dot, flat, rows, triangle}
use Rattle.spec_protocol.proofs.Flat.{length-flat, length-rows}
use Rattle.ring_rq_matrix.specs.Region.{vector}
use Rattle.core_garbage_polynomials.specs.Garbage.{h_of, TriangleFits}
use Rattle.ntt_vectors.specs.NttForm.{ntt_words}
use Rattle.ntt_vectors.proofs.Stored.{length-ntt_words}
use Rattle.core_garbage_ntt.specs.NttLines as K
use Rattle.layout_regions.specs.declared.Regions.{Regions}
use Rattle.relation_env_params.specs.declared.env_params.EnvironmentParameters.{EnvironmentParameters}
use Rattle.core_workspace.specs.Holds.{Unchanged}
use Rattle.core_workspace.proofs.Unchanged.{unchanged_refl, unchanged_stored, unchanged_under}
use Rattle.prover_commit.specs.Work.{Placed, ReadyForH, with_h}
use Rattle.prover_commit.proofs.Lengths.{length_cells}

module _ (W : List ℕ) (params : EnvironmentParameters) (regions : Regions) (S : List ℕ) (h : ReadyForH W params regions S) where
  abbrev r : ℕ
  r = params.multiplicity

  abbrev n : ℕ
  n = params.rank

  -- by plain products
  pub plain_fits : TriangleFits W 1 r n S regions.phi regions.a_or_h
  plain_fits = (h.witness, omega (arith, h.room.2, h.room.3), h.room.3, inl h.room.2, h.room.5, h.room.4)

  pub plain_unchanged : (S' : List ℕ) → S' ≡ with_h W params regions S → Unchanged regions.phi (with_h W params regions S) S'
  plain_unchanged S' e = subst (Unchanged regions.phi (with_h W params regions S)) (sym e) (unchanged_refl regions.phi (with_h W params regions S))

  -- in NTT form: the values, the square of inner products, and h
  abbrev cells : List ℕ
  cells = flat (triangle r (h_of S regions.phi W 1 n))

  abbrev values : List ℕ
  values = ntt_words W 1 (r * n)

  line : ℕ → ℕ → Element
  line i j = dot n (vector S regions.phi n i) (vector W 1 n j)

  abbrev S₁ : List ℕ
  S₁ = splice S regions.phi2 values

  abbrev S₂ : List ℕ
  S₂ = splice S₁ regions.a2 (flat (rows r r line))

  lines_are : K.lines_of S regions.phi W 1 r n regions.phi2 regions.a2 ≡ S₂
  unfolding K.lines_of line
  lines_are = refl

  lines_unchanged : Unchanged regions.phi S S₂
  lines_unchanged =
      unchanged_stored regions.phi S S₁ S₂ regions.a2 (flat (rows r r line))
      (unchanged_stored regions.phi S S S₁ regions.phi2 values (unchanged_refl regions.phi S) refl (omega (arith, h.room.0, h.room.1, length-ntt_words W 1 (r * n))))
      refl (omega (arith, h.room.1, length-flat (rows r r line), length-rows r line r))

  pub transforms_unchanged : (S' : List ℕ) → S' ≡ K.with_h S regions.phi W 1 r n regions.phi2 regions.a2 regions.a_or_h → Unchanged regions.phi (with_h W params regions S) S'
  transforms_unchanged S' e =
      subst (Unchanged regions.phi (with_h W params regions S)) (sym (e ∙ ap (λ l. splice l regions.a_or_h cells) lines_are))
      (unchanged_under regions.phi S S₂ regions.a_or_h cells lines_unchanged (omega (arith, h.room.3, length_cells r (h_of S regions.phi W 1 n))))

  -- then the regions lie within the scratch as before
  pub placed_then : (S' : List ℕ) → Unchanged regions.phi (with_h W params regions S) S' → Placed params regions S'
  placed_then S' k =
      let e : length S' ≡ length S = k.size ∙ length-splice S regions.a_or_h cells in
      let b = h.placed in
      let to : (at m : ℕ) → at + m ≤ length S → at + m ≤ length S' = λ at m l. omega (arith, e) in
      record { sized = b.sized; t = to _ _ b.t; g = to _ _ b.g; h = to _ _ b.h; b'' = to _ _ b.b''; challenges = to _ _ b.challenges }
