-- The job with b0 and b worked out is the load's.
use mathlib.Core.Path.{◌≡◌, refl, sym, ap, ap₂, ◌∙◌}
use mathlib.Core.List.{List, ◌∷◌}
use Prim.Native.Nat.{ℕ, ◌+◌, ◌*◌, ◌%◌, ◌≤◌, ◌<◌, ◌^◌}
use native.Mathlib.Nat.{mul-le-mul_right}
use native.Mathlib.Omega.{arith}
use lib.ListN.{length, get_or, set, length-replicate}
use Rattle.math.specs.lists.Table.{table}
use Rattle.math.specs.lists.Part.{part, splice}
use Rattle.math.proofs.lists.Table.{table_ext}
use Rattle.math.proofs.lists.Splice.{length-splice, get_d_part}
use Rattle.math.proofs.algebra.Form.{form_ext}
use Rattle.math.proofs.algebra.Ring.{nil-add}
use Rattle.spec_leaves.specs.Zq.{Q, zadd}
use Rattle.spec_leaves.specs.Rq.{Element, coeff, rzero}
use Rattle.spec_leaves.specs.Ring.{RqOps, words, element}
use Rattle.spec_leaves.proofs.RqRing.{rq_ring, words_path}
use Rattle.spec_leaves.proofs.Bridge.{coeff-canonical, words-nil}
use Rattle.spec_protocol.specs.Parameters.{Parameters, T}
use Rattle.spec_protocol.specs.Layout.{canonical, span, start, sections, job_sections, witness_sections}
use Rattle.spec_protocol.specs.Views.{witness, element_at, cell}
use Rattle.spec_protocol.specs.Formulas.{◌⊕◌, left, flat}
use Rattle.spec_protocol.specs.Load.{Given, section_one, load_parameters, load_job_sections, job_drawn, drawn, load_witness, load_vectors}
use Rattle.spec_protocol.specs.Load.{blank_job, b₀_words, b_words, load_job}
use Rattle.spec_protocol.proofs.Sections.{Filled, length-sections, section_word}
use Rattle.spec_protocol.proofs.LoadSections.{get_or_zeros}
use Rattle.spec_protocol.proofs.LoadJob.{whole_filled, job_drawn_filled, witness_filled, job_half_filled, length-b₀, length-b, cell-inside, line_inside}
use Rattle.load_constraints.specs.declared.sums.Target.{Target}
use Rattle.load_constraints.specs.Sums.{plus}
use Rattle.load_constraints.specs.Terms.{left_of}
use Rattle.load.specs.Sums.{Blank, constant_left, sums_of}
use Rattle.load.proofs.Replace.{section_replaced, section_within, splice-inside, part_front, get_d_front}

-- zeros stand for the zero element
zeros_are_nil : (J : List ℕ) (at : ℕ) → ((i : ℕ) → i < 64 → get_or J (at + i) 0 ≡ 0) → element (part J at 64) ≡ RqOps.nil
unfolding element rzero
zeros_are_nil J at zeros =
    words_path (element (part J at 64)) RqOps.nil
    (table_ext 64 (λ k. coeff (part J at 64) k % Q) (λ k. 0) (λ k h. ap (λ x. x % Q) (get_d_part 0 J at 64 k h ∙ zeros k h)) ∙ sym words-nil)

-- what is added to zeros is what stands there
pub sums-from_zero : (P : Parameters) (J W : List ℕ) (t : Target) → Blank P J
    → t.b0_at ≡ 31 + start (job_sections P) 2 → t.l ≡ P.l → t.b_at ≡ 31 + start (job_sections P) 5 → t.k ≡ P.K
    → plus J t (left_of J (31 + start (job_sections P) 0) (31 + start (job_sections P) 1) W 1 P.r P.n)
    (left_of J (31 + start (job_sections P) 3) (31 + start (job_sections P) 4) W 1 P.r P.n) ≡ sums_of P J W
unfolding plus sums_of start
sums-from_zero P J W t zeros e₀ el e ek =
    let F : ℕ → Element = left_of J (31 + start (job_sections P) 0) (31 + start (job_sections P) 1) W 1 P.r P.n in
    let G : ℕ → Element = left_of J (31 + start (job_sections P) 3) (31 + start (job_sections P) 4) W 1 P.r P.n in
    let b₀ = 31 + start (job_sections P) 2 in
    let b = 31 + start (job_sections P) 5 in
    ap₂ (λ x n. splice (splice J x (table n (λ y. zadd (get_or J (x + y) 0) (coeff (words (F y)) 0)))) t.b_at (flat (table t.k (λ k. element_at J t.b_at k ⊕ G k)))) e₀ el
    ∙ ap₂ (λ x n. splice (splice J b₀ (table P.l (λ y. zadd (get_or J (b₀ + y) 0) (coeff (words (F y)) 0)))) x (flat (table n (λ k. element_at J x k ⊕ G k)))) e ek
    ∙ ap₂ (λ u v. splice (splice J b₀ u) b (flat v))
    (table_ext P.l (λ y. zadd (get_or J (b₀ + y) 0) (coeff (words (F y)) 0)) (constant_left P J W)
    (λ y h. ap (λ w. zadd w (coeff (words (F y)) 0)) (zeros.b₀ y h) ∙ from_zero (coeff (words (F y)) 0) (coeff-canonical (F y) 0)))
    (table_ext P.K (λ k. element_at J b k ⊕ G k) G
    (λ k h. ap (λ x. x ⊕ G k) (zeros_are_nil J (b + 64 * k) (λ i l. ap (λ q. get_or J q 0) (deeper b k i) ∙ zeros.b (64 * k + i) (omega arith))) ∙ nil-add RqOps rq_ring (G k)))
  where
    from_zero : (c : ℕ) → c < Q → zadd 0 c ≡ c
    from_zero c h = omega arith

    deeper : (b k i : ℕ) → b + 64 * k + i ≡ b + (64 * k + i)
    deeper b k i = omega arith

module _ (G : Given) (seed : ℕ) (fits : seed < 2 ^ 32) (job wit : List ℕ) (room : span (load_job_sections G) ≤ length job)
    (witness-room : span (witness_sections (load_parameters G)) ≤ length wit) where
  bare : Filled (load_job_sections G) (section_one G ∷ job_drawn G seed)
  bare = whole_filled G (job_drawn G seed) (job_drawn_filled G seed fits)

  blank-length : length (blank_job G seed) ≡ span (load_job_sections G)
  unfolding blank_job
  blank-length = length-sections bare

  pub witness-length : length (load_witness G seed) ≡ span (witness_sections (load_parameters G))
  unfolding load_witness
  witness-length = length-sections (witness_filled G seed fits)

  -- b0 and b are zero in what was drawn
  pub is_blank : Blank (load_parameters G) (splice job 0 (blank_job G seed))
  unfolding blank_job drawn start span
  is_blank = record {
    room = omega (arith, length-splice job 0 (blank_job G seed), room);
    b₀ = λ x h. get_d_front job (blank_job G seed) (omega (arith, blank-length, room)) (31 + start (job_sections (load_parameters G)) 2 + x) (omega (arith, section_within bare 3 (omega arith)))
        ∙ section_word bare 3 x (omega (arith, length-replicate {A = ℕ} G.l 0)) ∙ get_or_zeros G.l x;
    b = λ x h. get_d_front job (blank_job G seed) (omega (arith, blank-length, room)) (31 + start (job_sections (load_parameters G)) 5 + x) (omega (arith, section_within bare 6 (omega arith)))
        ∙ section_word bare 6 x (omega (arith, length-replicate {A = ℕ} (64 * G.K) 0)) ∙ get_or_zeros (64 * G.K) x;
  }

  -- an element of section m of the job, and of the witness, read from the buffers
  job-element : (m count k : ℕ) → m < 11 → (get_or (load_job_sections G) m (canonical 0)).count ≡ 64 * count → k < count
      → element_at (splice job 0 (blank_job G seed)) (start (load_job_sections G) m) k ≡ element_at (blank_job G seed) (start (load_job_sections G) m) k
  unfolding blank_job
  job-element m count k h size l =
      ap element (part_front job (blank_job G seed) (omega (arith, blank-length, room)) (start (load_job_sections G) m + 64 * k) 64 (omega (arith, section_within bare m (omega arith))))

  witness-element : (k : ℕ) → k < G.r * G.n → element_at (splice wit 0 (load_witness G seed)) 1 k ≡ element_at (load_witness G seed) 1 k
  unfolding span
  witness-element k h =
      ap element (part_front wit (load_witness G seed) (omega (arith, witness-length, witness-room)) (1 + 64 * k) 64 (omega (arith, witness-length)))

  -- the left sides, read from the buffers
  vectors-same : (i m : ℕ) → i < G.r → m < G.n → witness (load_parameters G) (splice wit 0 (load_witness G seed)) i m ≡ load_vectors G seed i m
  unfolding start
  vectors-same i m hi hm = witness-element (i * G.n + m) (omega (arith, mul-le-mul_right G.n hi))

  -- the left side of constraint x of a kind whose triangles and vectors are two sections
  left-same : (a φ count x : ℕ) → a < 11 → φ < 11 → (get_or (load_job_sections G) a (canonical 0)).count ≡ 64 * (count * T (load_parameters G))
      → (get_or (load_job_sections G) φ (canonical 0)).count ≡ 64 * (count * G.r * G.n) → x < count
      → left (load_parameters G) (λ i j. element_at (splice job 0 (blank_job G seed)) (start (load_job_sections G) a) (x * T (load_parameters G) + cell i j))
      (λ i m. element_at (splice job 0 (blank_job G seed)) (start (load_job_sections G) φ) ((x * G.r + i) * G.n + m)) (witness (load_parameters G) (splice wit 0 (load_witness G seed)))
      ≡ left (load_parameters G) (λ i j. element_at (blank_job G seed) (start (load_job_sections G) a) (x * T (load_parameters G) + cell i j))
      (λ i m. element_at (blank_job G seed) (start (load_job_sections G) φ) ((x * G.r + i) * G.n + m)) (load_vectors G seed)
  left-same a φ count x ha hφ sa sφ h =
      form_ext RqOps G.r G.n _ _ _ _ _ _
      (λ i j hi hj. job-element a (count * T (load_parameters G)) (x * T (load_parameters G) + cell i j) ha sa (cell-inside G seed fits x count i j h hi hj))
      (λ i m hi hm. job-element φ (count * G.r * G.n) ((x * G.r + i) * G.n + m) hφ sφ (line_inside G seed fits x count i m h hi hm))
      vectors-same

  b₀-same : table G.l (constant_left (load_parameters G) (splice job 0 (blank_job G seed)) (splice wit 0 (load_witness G seed))) ≡ b₀_words G seed
  unfolding b₀_words start blank_job sections
  b₀-same = table_ext G.l _ _ (λ x h. ap (λ e. coeff (words e) 0) (left-same 1 2 G.l x (omega arith) (omega arith) refl refl h))

  b-same : flat (table G.K (λ k. left (load_parameters G)
      (λ i j. element_at (splice job 0 (blank_job G seed)) (31 + start (job_sections (load_parameters G)) 3) (k * T (load_parameters G) + cell i j))
      (λ i m. element_at (splice job 0 (blank_job G seed)) (31 + start (job_sections (load_parameters G)) 4) ((k * G.r + i) * G.n + m))
      (witness (load_parameters G) (splice wit 0 (load_witness G seed))))) ≡ b_words G seed
  unfolding b_words start blank_job sections
  b-same = ap flat (table_ext G.K _ _ (λ k h. left-same 4 5 G.K k (omega arith) (omega arith) refl refl h))

  -- b0 and b stand within the job
  within₀ : 31 + start (job_sections (load_parameters G)) 2 + G.l ≤ length (blank_job G seed)
  unfolding start blank_job
  within₀ = section_within bare 3 (omega arith)

  within : 31 + start (job_sections (load_parameters G)) 5 + 64 * G.K ≤ length (blank_job G seed)
  unfolding start blank_job
  within = section_within bare 6 (omega arith)

  -- both put into the drawn sections
  replaced : splice (splice (blank_job G seed) (31 + start (job_sections (load_parameters G)) 2) (b₀_words G seed)) (31 + start (job_sections (load_parameters G)) 5) (b_words G seed) ≡ load_job G seed
  unfolding start blank_job load_job drawn
  replaced =
      ap (λ l. splice l (31 + start (job_sections (load_parameters G)) 5) (b_words G seed)) (section_replaced bare 3 (b₀_words G seed) (omega arith) (length-b₀ G seed fits))
      ∙ section_replaced (whole_filled G (set (job_drawn G seed) 2 (b₀_words G seed)) (job_half_filled G seed fits)) 6 (b_words G seed) (omega arith) (length-b G seed fits)

  -- the job with its sums, in the buffer
  pub finished : sums_of (load_parameters G) (splice job 0 (blank_job G seed)) (splice wit 0 (load_witness G seed)) ≡ splice job 0 (load_job G seed)
  unfolding sums_of
  finished =
      let P = load_parameters G in
      let short : length (blank_job G seed) ≤ length job = omega (arith, blank-length, room) in
      ap₂ (λ u v. splice (splice (splice job 0 (blank_job G seed)) (31 + start (job_sections P) 2) u) (31 + start (job_sections P) 5) v) b₀-same b-same
      ∙ ap (λ l. splice l (31 + start (job_sections P) 5) (b_words G seed))
      (splice-inside job (blank_job G seed) short (31 + start (job_sections P) 2) (b₀_words G seed) (omega (arith, within₀, length-b₀ G seed fits)))
      ∙ splice-inside job (splice (blank_job G seed) (31 + start (job_sections P) 2) (b₀_words G seed))
      (omega (arith, length-splice (blank_job G seed) (31 + start (job_sections P) 2) (b₀_words G seed)))
      (31 + start (job_sections P) 5) (b_words G seed) (omega (arith, within, length-b G seed fits, length-splice (blank_job G seed) (31 + start (job_sections P) 2) (b₀_words G seed)))
      ∙ ap (splice job 0) replaced
