-- Where the sections of a job stand for the sums, and the sections of a table drawn.
use mathlib.Core.Path.{◌≡◌, sym, ap, ap₂, subst, ◌∙◌}
use mathlib.Core.List.{List}
use Prim.Native.Nat.{ℕ, ◌+◌, ◌*◌, ◌≤◌, ◌<◌}
use native.Mathlib.Nat.{mul-le-mul}
use native.Mathlib.Omega.{arith}
use lib.ListN.{length, get_or}
use Rattle.math.specs.lists.Part.{part, splice}
use Rattle.math.proofs.lists.Splice.{splice-append}
use Rattle.spec_leaves.specs.Zq.{Q}
use Rattle.spec_protocol.specs.Parameters.{Parameters, triangular}
use Rattle.spec_protocol.specs.Layout.{span, start, sections, job_sections}
use Rattle.spec_protocol.specs.Layout as L
use Rattle.spec_protocol.specs.Load as S
use Rattle.spec_protocol.specs.Load.{Given, load_parameters, drawn, after, job_rules, blank_job, after_job}
use Rattle.layout_sections.specs.declared.sections.Section.{Section}
use Rattle.layout_sections.specs.Sections.{listed}
use Rattle.layout_sizes.specs.Sizes.{Sized, IsTable}
use Rattle.load_draw.specs.declared.Rule.{Rule}
use Rattle.load_draw.specs.Rules.{rules_of}
use Rattle.load_needs.specs.Given.{one_of}
use Rattle.load_constraints.specs.declared.sums.Target.{Target}
use Rattle.load_constraints.specs.Sums.{Placed, Reduced}
use Rattle.load.specs.Sums.{Blank}

triangular-small : (r : ℕ) → r ≤ 16 → triangular r ≤ 136
triangular-small r h = omega (arith, mul-le-mul {n₁ = r} {m₁ = r + 1} {n₂ = 16} {m₂ = 17} h (omega arith))

-- the target of the sums in a job
pub record Aims (P : Parameters) (t : Target) : Type 0 where
  pub b₀ : t.b0_at ≡ 31 + start (job_sections P) 2
  pub l : t.l ≡ P.l
  pub b : t.b_at ≡ 31 + start (job_sections P) 5
  pub k : t.k ≡ P.K

module _ (P : Parameters) (J : List ℕ) (t : Target) (sized : Sized P) (blank : Blank P J) (aims : Aims P t) where
  -- triangles and vectors stand before the sums
  pub placed_triangles : (a₀ a : ℕ) → a₀ ≡ 31 + start (job_sections P) 0 → a ≡ 31 + start (job_sections P) 3 → Placed J t a₀ a (triangular P.r)
  unfolding start span
  placed_triangles a₀ a e₀ e =
      let w = sized.within in
      let T = triangular P.r in
      let room = blank.room in
      let small = triangular-small P.r w.r.1 in
      let at₀ = aims.b₀ in
      let at = aims.b in
      record {
        before₀ = subst (λ n. a₀ + 64 * (n * T) ≤ t.b0_at) (sym aims.l) (omega arith);
        between = omega (arith, aims.l);
        before = subst (λ n. a + 64 * (n * T) ≤ t.b_at) (sym aims.k) (omega arith);
        within = omega (arith, aims.k);
        few_l = omega (arith, aims.l, w.l.1);
        few_k = omega (arith, aims.k, w.K.1);
        few = omega arith;
      }

  pub placed-vectors : (φ₀ φ : ℕ) → φ₀ ≡ 31 + start (job_sections P) 1 → φ ≡ 31 + start (job_sections P) 4 → Placed J t φ₀ φ (P.r * P.n)
  unfolding start span
  placed-vectors φ₀ φ e₀ e =
      let w = sized.within in
      let room = blank.room in
      let small : P.r * P.n ≤ 1024 = mul-le-mul w.r.1 w.n.1 in
      let at₀ = aims.b₀ in
      let at = aims.b in
      record {
        before₀ = subst (λ n. φ₀ + 64 * (n * (P.r * P.n)) ≤ t.b0_at) (sym aims.l) (omega arith);
        between = omega (arith, aims.l);
        before = subst (λ n. φ + 64 * (n * (P.r * P.n)) ≤ t.b_at) (sym aims.k) (omega arith);
        within = omega (arith, aims.k);
        few_l = omega (arith, aims.l, w.l.1);
        few_k = omega (arith, aims.k, w.K.1);
        few = omega arith;
      }

  -- zeros are canonical
  pub zero_reduced : Reduced J t
  zero_reduced = record {
    b₀ = λ x h. subst (λ w. w < Q) (sym (ap (λ q. get_or J (q + x) 0) aims.b₀ ∙ blank.b₀ x (omega (arith, aims.l)))) (omega arith);
    b = λ x h. subst (λ w. w < Q) (sym (ap (λ q. get_or J (q + x) 0) aims.b ∙ blank.b x (omega (arith, aims.k)))) (omega arith);
  }

-- the sections of a table, drawn by the rules of another
pub table-drawn : {ss : List L.Section} {table : List Section} → IsTable ss table → (rules : List Rule) (rs : List S.Rule) → rules_of rules ≡ rs → (x : ℕ) (l now : List ℕ) (at r : ℕ)
    → (now ≡ splice l at (sections (drawn x (rules_of rules) (listed table)))) × (r ≡ after x (rules_of rules) (listed table))
    → (now ≡ splice l at (sections (drawn x rs ss))) × (r ≡ after x rs ss)
table-drawn t rules rs e x l now at r h =
    (h.0 ∙ ap₂ (λ r s. splice l at (sections (drawn x r s))) e t.lists, h.1 ∙ ap₂ (after x) e t.lists)

-- section one copied, then the sections drawn: the job without b0 and b
pub job_drawn_in : (G : Given) (P : Parameters) (seed : ℕ) (one job first now : List ℕ) (r : ℕ) → P ≡ load_parameters G → one ≡ one_of G
    → first ≡ splice job 0 (part one 0 31)
    → (now ≡ splice first 31 (sections (drawn seed job_rules (job_sections P)))) × (r ≡ after seed job_rules (job_sections P))
    → (now ≡ splice job 0 (blank_job G seed)) × (r ≡ after_job G seed)
unfolding blank_job sections
job_drawn_in G P seed one job first now r same e copied h = (
  h.0
      ∙ ap₂ (λ f Q. splice f 31 (sections (drawn seed job_rules (job_sections Q)))) (copied ∙ ap (λ o. splice job 0 (part o 0 31)) e) same
      ∙ splice-append job 0 (one_of G) (sections (drawn seed job_rules (job_sections (load_parameters G)))),
  h.1 ∙ ap (λ Q. after seed job_rules (job_sections Q)) same,
)
