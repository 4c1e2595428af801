-- The list index after index: each adds its entry, or none where nothing mends.
use mathlib.Core.Path.{◌≡◌, refl, sym, ap, ap₂, subst, ◌∙◌}
use mathlib.Core.Logic.{◌⊎◌, inl, inr}
use mathlib.Core.List.Memᴰ
use mathlib.Core.List.{List, [], flat_map, Memᴰ}
use Prim.Native.Nat.{ℕ, suc, ◌+◌, ◌*◌, ◌%◌, ◌≤◌, ◌<◌}
use native.Mathlib.Nat.{eq-or-lt_of_le, le_of_suc-le-suc}
use native.Mathlib.Numerals.{add-one}
use native.Mathlib.Omega.{arith}
use lib.ListN.{length, get_or}
use Rattle.math.specs.lists.Part.{splice}
use Rattle.math.proofs.lists.Splice.{length-splice, splice-nil}
use Rattle.math.proofs.lists.Padded.{padded-below}
use Rattle.spec_leaves.specs.Zq.{Q}
use Rattle.spec_protocol.specs.Parameters.{parameters}
use Rattle.spec_protocol.specs.Layout.{start, randomness_sections}
use Rattle.spec_protocol.specs.Views.{Public, Message, public, message}
use Rattle.spec_protocol.specs.Mistyped.{Entry, Ordered, Listed, Mends, Smallest, entry_words}
use Rattle.spec_protocol.proofs.Mistyped as Mistyped
use Rattle.spec_protocol.proofs.Mistyped.{passes_supplies, supplies_passes}
use Rattle.spec_protocol.proofs.MistypedList.{before_other}
use Rattle.relation_env_params.specs.declared.env_params.EnvironmentParameters.{EnvironmentParameters}
use Rattle.relation_env_params.specs.Parameters.{parameters_of}
use Rattle.std.specs.Prelude.{Option, Some, None}
use Rattle.mistyped_solve.specs.Congruence.{Found}
use Rattle.mistyped_solve.specs.Rows.{Supplies}
use Rattle.mistyped_solve.specs.Insert.{entry, insert}
use Rattle.mistyped_solve.proofs.Inserted.{length-insert, insert-from, insert_to, insert-ordered}
use Rattle.mistyped_solve.proofs.Words.{insert-stored}
use Rattle.verifier_common.specs.Work.{Sent}
use Rattle.mistyped_entries.specs.Lacking.{all_lacking}
use Rattle.mistyped_entries.specs.Entered.{entered_count, entered_list, Entered}
use Rattle.mistyped_entries.proofs.Row.{rows_are}

-- an index below the next one
below_next : {i j : ℕ} → j < i + 1 → (j ≡ i) ⊎ (j < i)
below_next {i} {j} h = eq-or-lt_of_le (le_of_suc-le-suc (subst (λ n. j < n) (add-one i) h))

module _ (X : Public) (M : Message) where
  -- no index
  pub listed-none : Listed X M 0 []
  unfolding Ordered
  listed-none = record {
    ordered = tt;
    inside = λ e m. absurd (Memᴰ.not-nil m);
    smallest = λ e m. absurd (Memᴰ.not-nil m);
    all = λ i x h m. absurd (omega arith);
  }

  module _ (i : ℕ) (es : List Entry) (p : Listed X M i es) where
    -- an index at which nothing mends
    pub listed_skip : ((y : ℕ) → Mends X M i y → ⊥) → Listed X M (i + 1) es
    listed_skip none = record {
      ordered = p.ordered;
      inside = λ e m. let h = p.inside e m in omega arith;
      smallest = p.smallest;
      all = all;
    }
      where
        all : (j x : ℕ) → j < i + 1 → Mends X M j x → (y : ℕ) × Memᴰ (entry j y) es
        all j x h m = go (below_next h)
          where
            go : (j ≡ i) ⊎ (j < i) → (y : ℕ) × Memᴰ (entry j y) es
            go (inl e) = absurd (none x (subst (λ k. Mends X M k x) e m))
            go (inr l) = p.all j x l m

    -- an index with its number
    pub listed_next : (x : ℕ) → Smallest X M i x → Listed X M (i + 1) (insert (entry i x) es)
    listed_next x s = record {
      ordered = insert-ordered (entry i x) es p.ordered (λ g m. before_other (entry i x) g (λ e. let h = p.inside g m in omega arith));
      inside = inside;
      smallest = smallest;
      all = all;
    }
      where
        inside : (e : Entry) → Memᴰ e (insert (entry i x) es) → e.index < i + 1
        inside e m = go (insert-from (entry i x) es e m)
          where
            go : (e ≡ entry i x) ⊎ Memᴰ e es → e.index < i + 1
            go (inl f) = let h : e.index ≡ i = ap (λ g. g.index) f in omega arith
            go (inr n) = let h = p.inside e n in omega arith

        smallest : (e : Entry) → Memᴰ e (insert (entry i x) es) → Smallest X M e.index e.number
        smallest e m = go (insert-from (entry i x) es e m)
          where
            go : (e ≡ entry i x) ⊎ Memᴰ e es → Smallest X M e.index e.number
            go (inl f) = subst (λ (g : Entry). Smallest X M g.index g.number) (sym f) s
            go (inr n) = p.smallest e n

        all : (j y : ℕ) → j < i + 1 → Mends X M j y → (z : ℕ) × Memᴰ (entry j z) (insert (entry i x) es)
        all j y h m = go (below_next h)
          where
            go : (j ≡ i) ⊎ (j < i) → (z : ℕ) × Memᴰ (entry j z) (insert (entry i x) es)
            go (inl e) = (x, insert_to (entry i x) es (entry j x) (inl (ap (λ k. entry k x) e)))
            go (inr l) = let a = p.all j y l m in (a.0, insert_to (entry i x) es (entry j a.0) (inr a.1))

-- what is found of the rows is found of what mends
module _ {J R T : List ℕ} {params : EnvironmentParameters} (w : Sent J R T params) (psi : ℕ) (at : psi ≡ start (randomness_sections (parameters_of params)) 1)
    (i : ℕ) (h : i < params.constraint_l) where
  -- the public values and the message
  abbrev X : Public
  X = public J R

  abbrev M : Message
  M = message (parameters J) T

  -- the index is one of the job's
  inside : i < (parameters J).l
  inside = subst (λ n. i < n) (ap (λ P. P.l) w.posed.same) h

  -- the rows' words and what they lack
  abbrev RowsGive : ℕ → Type 0
  RowsGive = Supplies R (psi + i) params.constraint_l (all_lacking J R T params.const_agg_length) params.const_agg_length

  -- a weight of row k at its place
  weight : (k : ℕ) → get_or R (psi + i + k * params.constraint_l) 0 ≡ X.psi k i
  weight k =
      ap₂ (λ a l. get_or R (a + i + k * l) 0) (at ∙ ap (λ P. start (randomness_sections P) 1) w.posed.same) (ap (λ P. P.l) w.posed.same)
      ∙ ap (λ n. get_or R n 0) (order (start (randomness_sections (parameters J)) 1) i (k * (parameters J).l))
    where
      order : (a i m : ℕ) → a + i + m ≡ a + (m + i)
      order a i m = omega arith

  -- what row k lacks, in its place
  lack : (k : ℕ) → k < params.const_agg_length → params.const_agg_length ≤ 32 → get_or (all_lacking J R T params.const_agg_length) k 0 ≡ Mistyped.lacking X M k
  lack k g few = padded-below 32 0 (Mistyped.lacking X M) params.const_agg_length k (omega arith) g

  module _ (few : params.const_agg_length ≤ 32) where
    give_supplies : (x : ℕ) → RowsGive x → Mistyped.Supplies X M i x
    give_supplies x f k g =
        let m : k < params.const_agg_length = subst (λ n. k < n) (sym (rows_are w)) g in
        ap (λ v. (v * x) % Q) (sym (weight k)) ∙ f k m ∙ lack k m few

    supplies_give : (x : ℕ) → Mistyped.Supplies X M i x → RowsGive x
    supplies_give x f k g =
        ap (λ v. (v * x) % Q) (weight k) ∙ f k (subst (λ n. k < n) (rows_are w) g) ∙ sym (lack k g few)

    -- the entries after one more index
    pub entered_next : (list₀ : List ℕ) (count : ℕ) (list : List ℕ) (s : Option ℕ) → 2 * count + 2 ≤ length list₀ → Found RowsGive s → Entered J R T i list₀ count list
        → Entered J R T (i + 1) list₀ (entered_count s count) (entered_list s i count list)
    entered_next list₀ count list (Some x) room (c, (g, f)) e =
        let small : Smallest X M i x = record {
          mends = (c, supplies_passes X M i inside x (give_supplies x g));
          none_smaller = λ y m. f y m.0 (supplies_give y (passes_supplies X M i inside y m.1));
        } in
        record {
          found = insert (entry i x) e.found;
          listed = listed_next X M i e.found e.listed x small;
          size = length-insert (entry i x) e.found ∙ ap suc e.size;
          few = let f = e.few in omega arith;
          words = again list e.words ∙ insert-stored list₀ e.found (omega (arith, e.size)) (entry i x) count e.size room;
        }
      where
        again : (list : List ℕ) → list ≡ splice list₀ 0 (entry_words e.found)
            → entered_list (Some x) i count list ≡ entered_list (Some x) i count (splice list₀ 0 (entry_words e.found))
        again list f = ap (λ l. entered_list (Some x) i count l) f
    entered_next list₀ count list None room f e = record {
      found = e.found;
      listed = listed_skip X M i e.found e.listed (λ y m. f y (supplies_give y (passes_supplies X M i inside y m.1)));
      size = e.size;
      few = let f = e.few in omega arith;
      words = e.words;
    }

-- no index yet
pub entered_none : (J R T list : List ℕ) → Entered J R T 0 list 0 list
unfolding flat_map
entered_none J R T list = record { found = []; listed = listed-none (public J R) (message (parameters J) T); size = refl; few = omega arith; words = sym (splice-nil list 0) }

-- the list keeps its length
pub entered_length : {J R T : List ℕ} {i : ℕ} {list₀ : List ℕ} {count : ℕ} {list : List ℕ} → Entered J R T i list₀ count list → length list ≡ length list₀
entered_length {list₀ = list₀} e = ap length e.words ∙ length-splice list₀ 0 (entry_words e.found)
