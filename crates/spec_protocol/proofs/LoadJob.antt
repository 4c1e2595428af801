-- The job, witness and randomness of a load are refused nothing, and each of its constraints is met.
use mathlib.Core.Path.{◌≡◌, refl, sym, ap, subst, ◌∙◌}
use mathlib.Core.Bool.{true}
use mathlib.Core.List.{List, [], ◌∷◌}
use Prim.Native.Nat.{ℕ, zero, suc, ◌+◌, ◌*◌, ◌≤◌, ◌<◌, ◌^◌}
use native.Mathlib.Nat.{mul-le-mul_right}
use native.Mathlib.Decide.{dec_le}
use native.Mathlib.Omega.{arith}
use borrow.Author.Tests.{lt-ltb}
use lib.Dec.{ltb}
use lib.ListN.{length, get_or, set}
use Rattle.math.specs.lists.Table.{table}
use Rattle.math.proofs.lists.Table.{length-table, get_or-table}
use Rattle.math.proofs.lists.Part.{part_of-part}
use Rattle.math.proofs.algebra.Form.{form_ext}
use Rattle.spec_leaves.specs.Zq.{Q}
use Rattle.spec_leaves.specs.Answer.{fine, refused}
use Rattle.spec_leaves.specs.Rq.{Element, coeff, AllCanonical, rzero, rsub}
use Rattle.spec_leaves.specs.Ring.{RqOps, words, element}
use Rattle.spec_leaves.proofs.Bridge.{coeff-canonical, element-rsub, words-nil}
use Rattle.spec_leaves.proofs.RqRing.{rq_ring}
use Rattle.spec_leaves.proofs.ZqRing.{zsub_zero}
use Rattle.spec_protocol.specs.Parameters.{parameters, T, limits, enough_aggregations}
use Rattle.spec_protocol.specs.Layout.{Section, canonical, part, span, start, sections, counted, layout, first_section, job_sections, randomness_sections}
use Rattle.spec_protocol.specs.Layout.{witness_sections, job_refusal, randomness_refusal, witness_refusal}
use Rattle.spec_protocol.specs.Views.{public, element_at, cell}
use Rattle.spec_protocol.specs.Formulas.{left}
use Rattle.spec_protocol.specs.Conditions.{constant_error, ring_error}
use Rattle.spec_protocol.specs.Load.{Given, section_one, load_parameters, load_job_sections, job_rules, witness_rules, randomness_rules, drawn, job_drawn, after_job}
use Rattle.spec_protocol.specs.Load.{after_witness, load_witness, load_randomness, blank_job, blank, load_vectors, b₀_words, b_words, load_job}
use Rattle.spec_protocol.proofs.Fine.{require-holds, then_both_fine}
use Rattle.spec_protocol.proofs.Sections.{Filled, none, more, length-sections, section_part, section_word, counted-fine, ranged_at, layout-fine, ranged-fine}
use Rattle.spec_protocol.proofs.Flat.{length-flat, flat-canonical, element_of-flat, length-triangle, cell-within}
use Rattle.spec_protocol.proofs.LoadSections.{Suit, end, draw, skip, word-canonical, sign_bit, ternary-canonical, drawn_filled, after_fits, filled_set}

-- a filled section has its count
pub filled_length : {ss : List Section} {wss : List (List ℕ)} → Filled ss wss → (m : ℕ) → length (get_or wss m []) ≡ (get_or ss m (canonical 0)).count
filled_length none m = refl
filled_length (more e r f) zero = e
filled_length (more e r f) (suc m) = filled_length f m

-- two slices of the same sections of which one holds the same words
module _ {ss : List Section} {w w' : List (List ℕ)} (f : Filled ss w) (f' : Filled ss w') (m : ℕ) (same : get_or w m [] ≡ get_or w' m []) where
  -- an element of that section is the same
  pub element_alike : (count k : ℕ) → (get_or ss m (canonical 0)).count ≡ 64 * count → k < count → element_at (sections w) (start ss m) k ≡ element_at (sections w') (start ss m) k
  element_alike count k size h =
      ap element
      (sym (part_of-part (sections w) (start ss m) (length (get_or w m [])) (64 * k) 64 (omega (arith, filled_length f m)))
      ∙ ap (λ l. part l (64 * k) 64) (section_part f m ∙ same ∙ sym (section_part f' m))
      ∙ part_of-part (sections w') (start ss m) (length (get_or w' m [])) (64 * k) 64 (omega (arith, filled_length f' m)))

-- the words of a job whose section one is a load's
module _ (G : Given) (wss : List (List ℕ)) (f : Filled (job_sections (load_parameters G)) wss) where
  -- all its sections
  pub whole_filled : Filled (load_job_sections G) (section_one G ∷ wss)
  whole_filled = more refl tt f

  -- the job is refused nothing where its parameters are not
  pub job_of-sections-fine : limits (load_parameters G) ≡ fine → enough_aggregations (load_parameters G) ≡ fine → job_refusal (sections (section_one G ∷ wss)) ≡ fine
  unfolding job_refusal counted layout sections span
  job_of-sections-fine within kappa =
      let J = sections (section_one G ∷ wss) in
      let long : length J ≡ 31 + span (job_sections (load_parameters G)) = length-sections whole_filled in
      let inside : ltb 0 (length J) ≡ true = lt-ltb 0 (length J) (omega arith) in
      let first : counted 3 J 0 first_section ≡ fine = rw inside (then_both_fine (require-holds (dec_le 31 (length J)) (refused 3 (length J)) (omega arith)) refl) in
      then_both_fine
      (then_both_fine
      (then_both_fine (then_both_fine first within) kappa)
      (then_both_fine (counted-fine f 3 J 31 refl)
      (require-holds (dec_le (length J) (31 + span (job_sections (load_parameters G)))) (refused 3 (31 + span (job_sections (load_parameters G)))) (omega arith))))
      (ranged_at f 6 J 31 refl)

module _ (G : Given) (seed : ℕ) (fits : seed < 2 ^ 32) where
  open G use {n, r, K, l}

  job_suit : Suit job_rules (job_sections (load_parameters G))
  job_suit =
      let zero-canonical : 0 < Q = omega arith in
      draw word-canonical (draw word-canonical (skip zero-canonical (draw word-canonical (draw word-canonical (skip zero-canonical
      (draw word-canonical (draw word-canonical (draw word-canonical (draw word-canonical end)))))))))

  witness_suit : Suit witness_rules (witness_sections (load_parameters G))
  witness_suit = draw ternary-canonical end

  randomness_suit : Suit randomness_rules (randomness_sections (load_parameters G))
  randomness_suit = draw word-canonical (draw word-canonical (draw word-canonical (draw word-canonical (draw word-canonical (draw sign_bit (draw (λ x h. tt) end))))))

  -- the sections drawn for the job, the witness and the randomness
  pub job_drawn_filled : Filled (job_sections (load_parameters G)) (job_drawn G seed)
  job_drawn_filled = drawn_filled job_suit seed fits

  after_job_fits : after_job G seed < 2 ^ 32
  after_job_fits = after_fits job_suit seed fits

  pub witness_filled : Filled (witness_sections (load_parameters G)) (drawn (after_job G seed) witness_rules (witness_sections (load_parameters G)))
  witness_filled = drawn_filled witness_suit (after_job G seed) after_job_fits

  pub randomness_filled : Filled (randomness_sections (load_parameters G)) (drawn (after_witness G seed) randomness_rules (randomness_sections (load_parameters G)))
  randomness_filled = drawn_filled randomness_suit (after_witness G seed) (after_fits witness_suit (after_job G seed) after_job_fits)

  b₀-canonical : AllCanonical (b₀_words G seed)
  unfolding b₀_words
  b₀-canonical k h =
      let f : ℕ → Element = λ x. left (load_parameters G) ((blank G seed).a' x) ((blank G seed).φ' x) (load_vectors G seed) in
      rw (get_or-table l (λ x. coeff (words (f x)) 0) k 0 (rw length-table at h)) (coeff-canonical (f k) 0)

  pub length-b₀ : length (b₀_words G seed) ≡ l
  unfolding b₀_words
  length-b₀ = length-table l (λ x. coeff (words (left (load_parameters G) ((blank G seed).a' x) ((blank G seed).φ' x) (load_vectors G seed))) 0)

  pub length-b : length (b_words G seed) ≡ 64 * K
  unfolding b_words
  length-b =
      let f : ℕ → Element = λ k. left (load_parameters G) ((blank G seed).a k) ((blank G seed).φ k) (load_vectors G seed) in
      length-flat (table K f) ∙ ap (λ k. 64 * k) (length-table K f)

  b-canonical : AllCanonical (b_words G seed)
  unfolding b_words
  b-canonical = flat-canonical (table K (λ k. left (load_parameters G) ((blank G seed).a k) ((blank G seed).φ k) (load_vectors G seed)))

  -- the sections of the job with b0 and b
  abbrev pub job-made : List (List ℕ)
  job-made = set (set (job_drawn G seed) 2 (b₀_words G seed)) 5 (b_words G seed)

  -- with b0, and with both
  pub job_half_filled : Filled (job_sections (load_parameters G)) (set (job_drawn G seed) 2 (b₀_words G seed))
  job_half_filled = filled_set job_drawn_filled 2 (b₀_words G seed) length-b₀ b₀-canonical

  pub job-made_filled : Filled (job_sections (load_parameters G)) job-made
  job-made_filled = filled_set job_half_filled 5 (b_words G seed) length-b b-canonical

  -- the parameters of the job's words
  pub load_job-parameters : parameters (load_job G seed) ≡ load_parameters G
  unfolding load_job sections drawn
  load_job-parameters = refl

  -- a load is refused by none of 3 to 8, 11 and 12
  pub load_job-fine : limits (load_parameters G) ≡ fine → enough_aggregations (load_parameters G) ≡ fine → job_refusal (load_job G seed) ≡ fine
  unfolding load_job drawn
  load_job-fine = job_of-sections-fine G job-made job-made_filled

  pub load_randomness-fine : randomness_refusal (load_parameters G) 7 (load_randomness G seed) ≡ fine
  unfolding randomness_refusal load_randomness
  load_randomness-fine = then_both_fine (layout-fine randomness_filled 7) (ranged-fine randomness_filled 8)

  pub load_witness-fine : witness_refusal (load_parameters G) (load_witness G seed) ≡ fine
  unfolding witness_refusal load_witness
  load_witness-fine = then_both_fine (layout-fine witness_filled 11) (ranged-fine witness_filled 12)

  -- a cell of constraint x
  pub cell-inside : (x count i j : ℕ) → x < count → i < r → j < r → x * T (load_parameters G) + cell i j < count * T (load_parameters G)
  cell-inside x count i j h hi hj =
      let f : ℕ → ℕ → Element = λ a b. RqOps.nil in
      omega (arith, mul-le-mul_right (T (load_parameters G)) h, cell-within r f i j hi hj, length-triangle r f)

  -- an element of its vectors
  pub line_inside : (x count i m : ℕ) → x < count → i < r → m < n → (x * r + i) * n + m < count * r * n
  line_inside x count i m h hi hm =
      let row : x * r + i + 1 ≤ count * r = omega (arith, mul-le-mul_right r h) in
      omega (arith, mul-le-mul_right n row)

  -- the left sides of the job with b0 and b are those of the job without them
  constant_left-same : (R : List ℕ) (x : ℕ) → x < l
      → left (load_parameters G) ((public (load_job G seed) R).a' x) ((public (load_job G seed) R).φ' x) (load_vectors G seed) ≡ left (load_parameters G) ((blank G seed).a' x)
      ((blank G seed).φ' x) (load_vectors G seed)
  unfolding load_job blank_job sections start drawn
  constant_left-same R x h =
      let made = whole_filled G job-made job-made_filled in
      let bare = whole_filled G (job_drawn G seed) job_drawn_filled in
      form_ext RqOps r n ((public (load_job G seed) R).a' x) ((blank G seed).a' x) ((public (load_job G seed) R).φ' x) ((blank G seed).φ' x) (load_vectors G seed) (load_vectors G seed)
      (λ i j hi hj. element_alike made bare 1 refl (l * T (load_parameters G)) (x * T (load_parameters G) + cell i j) refl (cell-inside x l i j h hi hj))
      (λ i m hi hm. element_alike made bare 2 refl (l * r * n) ((x * r + i) * n + m) refl (line_inside x l i m h hi hm))
      (λ i m hi hm. refl)

  ring_left_same : (R : List ℕ) (k : ℕ) → k < K
      → left (load_parameters G) ((public (load_job G seed) R).a k) ((public (load_job G seed) R).φ k) (load_vectors G seed) ≡ left (load_parameters G) ((blank G seed).a k)
      ((blank G seed).φ k) (load_vectors G seed)
  unfolding load_job blank_job sections start drawn
  ring_left_same R k h =
      let made = whole_filled G job-made job-made_filled in
      let bare = whole_filled G (job_drawn G seed) job_drawn_filled in
      form_ext RqOps r n ((public (load_job G seed) R).a k) ((blank G seed).a k) ((public (load_job G seed) R).φ k) ((blank G seed).φ k) (load_vectors G seed) (load_vectors G seed)
      (λ i j hi hj. element_alike made bare 4 refl (K * T (load_parameters G)) (k * T (load_parameters G) + cell i j) refl (cell-inside k K i j h hi hj))
      (λ i m hi hm. element_alike made bare 5 refl (K * r * n) ((k * r + i) * n + m) refl (line_inside k K i m h hi hm))
      (λ i m hi hm. refl)

  -- what stands for b0 and b
  b₀_read : (R : List ℕ) (x : ℕ) → x < l
      → (public (load_job G seed) R).b₀ x ≡ coeff (words (left (load_parameters G) ((blank G seed).a' x) ((blank G seed).φ' x) (load_vectors G seed))) 0
  unfolding load_job sections start drawn b₀_words
  b₀_read R x h =
      let f : ℕ → ℕ = λ x. coeff (words (left (load_parameters G) ((blank G seed).a' x) ((blank G seed).φ' x) (load_vectors G seed))) 0 in
      section_word (whole_filled G job-made job-made_filled) 3 x (rw (length-table l f) h) ∙ get_or-table l f x 0 h

  b_read : (R : List ℕ) (k : ℕ) → k < K → (public (load_job G seed) R).b k ≡ left (load_parameters G) ((blank G seed).a k) ((blank G seed).φ k) (load_vectors G seed)
  unfolding load_job sections start drawn b_words
  b_read R k h =
      let f : ℕ → Element = λ k. left (load_parameters G) ((blank G seed).a k) ((blank G seed).φ k) (load_vectors G seed) in
      element_of-flat (load_job G seed) (31 + start (job_sections (load_parameters G)) 5) (table K f) k RqOps.nil (section_part (whole_filled G job-made job-made_filled) 6)
      (rw (length-table K f) h)
      ∙ get_or-table K f k RqOps.nil h

  -- "so that each constraint is met"
  pub load_constant_met : (R : List ℕ) (x : ℕ) → x < l → constant_error (public (load_job G seed) R) (load_vectors G seed) x ≡ 0
  unfolding constant_error load_job sections drawn
  load_constant_met R x h =
      let f = left (load_parameters G) ((public (load_job G seed) R).a' x) ((public (load_job G seed) R).φ' x) (load_vectors G seed) in
      let same : coeff (words f) 0 ≡ (public (load_job G seed) R).b₀ x = ap (λ e. coeff (words e) 0) (constant_left-same R x h) ∙ sym (b₀_read R x h) in
      (zsub_zero (coeff (words f) 0) ((public (load_job G seed) R).b₀ x) (coeff-canonical f 0) (subst (λ w. w < Q) same (coeff-canonical f 0))).1 same

  pub load_ring_met : (R : List ℕ) (k : ℕ) → k < K → words (ring_error (public (load_job G seed) R) (load_vectors G seed) k) ≡ rzero
  unfolding ring_error load_job sections drawn
  load_ring_met R k h =
      let f = left (load_parameters G) ((public (load_job G seed) R).a k) ((public (load_job G seed) R).φ k) (load_vectors G seed) in
      let same : (public (load_job G seed) R).b k ≡ f = b_read R k h ∙ sym (ring_left_same R k h) in
      ap (λ e. words (element (rsub (words f) (words e)))) same
      ∙ ap words (element-rsub (words f) (words f) ∙ rq_ring.add-neg (element (words f)))
      ∙ words-nil
