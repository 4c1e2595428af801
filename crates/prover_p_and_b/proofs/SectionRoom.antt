-- The room that sections have in the output, and what a projection reads, as the code reckons them.
use mathlib.Core.Path.{◌≡◌, sym, subst}
use mathlib.Core.List.{List, [], ◌∷◌}
use Prim.Native.Nat.{ℕ, ◌+◌, ◌*◌, ◌≤◌, ◌<◌, ◌^◌}
use native.Mathlib.Omega.{arith}
use mir.Syntax.{w32, w64}
use mir.Val.{Fits}
use lib.ListN.{length, set, length-set}
use Rattle.spec_protocol.specs.Layout.{start, sections, randomness_sections}
use Rattle.core_jl.specs.Run as Jl
use Rattle.layout_regions.specs.declared.Regions.{Regions}
use Rattle.relation_env_params.specs.declared.env_params.EnvironmentParameters.{EnvironmentParameters}
use Rattle.relation_env_params.specs.Parameters.{parameters_of}
use Rattle.core_workspace.specs.Ready.{Drawn}
use Rattle.core_workspace.proofs.Ready.{ready-sized, Π-within}
use Rattle.prover_commit.specs.Work.{WorkGiven}
use Rattle.prover_commit.proofs.Room.{s-room}
use Rattle.prover_p_and_b.specs.Sections.{Projects}
use Rattle.prover_p_and_b.proofs.TranscriptSections.{length-one, length-sections-append}

-- a count of few elements' words
pub few_words : (n : ℕ) → n ≤ 1024 → 64 * n < 2 ^ 32
few_words n h = omega arith

pub fits_words : (n : ℕ) → n ≤ 1024 → Fits w64 (64 * n)
fits_words n h = record { fits = omega arith }

pub fits_count : (n : ℕ) → n ≤ 1024 → Fits w32 (64 * n)
fits_count n h = record { fits = few_words n h }

-- a section within an output, as its count and its words
pub section_room : (at count : ℕ) (ws o : List ℕ) → length ws ≡ count → at + length (sections (ws ∷ [])) ≤ length o → at + 1 + count ≤ length o
section_room at count ws o size h = omega (arith, size, length-one ws, h)

-- the place of the count
pub count_room : (at count n : ℕ) → at + 1 + count ≤ n → at < n
count_room at count n h = omega arith

-- the words' room after the count is stored
pub words-room : (at count v : ℕ) (o : List ℕ) → at + 1 + count ≤ length o → at + 1 + count ≤ length (set o at v)
words-room at count v o h = subst (λ n. at + 1 + count ≤ n) (sym (length-set o at v)) h

-- places up to the section's end, in a list whose length fits
pub fits_next : (at count n : ℕ) → at + 1 + count ≤ n → n < 2 ^ 64 → Fits w64 (at + 1)
fits_next at count n h f = record { fits = omega arith }

pub fits_end : (at count n : ℕ) → at + 1 + count ≤ n → n < 2 ^ 64 → Fits w64 (at + 1 + count)
fits_end at count n h f = record { fits = omega arith }

-- three sections within an output
pub sections-room : (at a b : ℕ) (us vs ws o : List ℕ) → length us ≡ a → length vs ≡ b → length ws ≡ b → at + length (sections (us ∷ vs ∷ ws ∷ [])) ≤ length o → at + 1 + a + 1 + b + 1 + b ≤ length o
sections-room at a b us vs ws o e f g h =
    omega (arith, e, f, g, h, length-sections-append (us ∷ []) (vs ∷ ws ∷ []), length-sections-append (vs ∷ []) (ws ∷ []), length-one us, length-one vs, length-one ws)

-- the place after three sections
pub sections-end : (at a b : ℕ) (us vs ws : List ℕ) → length us ≡ a → length vs ≡ b → length ws ≡ b → at + 1 + a + 1 + b + 1 + b ≡ at + length (sections (us ∷ vs ∷ ws ∷ []))
sections-end at a b us vs ws e f g =
    omega (arith, e, f, g, length-sections-append (us ∷ []) (vs ∷ ws ∷ []), length-sections-append (vs ∷ []) (ws ∷ []), length-one us, length-one vs, length-one ws)

-- the first of three sections, the second and the third
pub room_1 : (at a b n : ℕ) → at + 1 + a + 1 + b + 1 + b ≤ n → at + 1 + a ≤ n
room_1 at a b n h = omega arith

pub room_2 : (at a b n : ℕ) → at + 1 + a + 1 + b + 1 + b ≤ n → at + 1 + a + 1 + b ≤ n
room_2 at a b n h = omega arith

-- what a projection reads, by the code's parameters
pub p-room : (params : EnvironmentParameters) (R W : List ℕ) → Projects params R W → (at : ℕ) → at ≡ start (randomness_sections (parameters_of params)) 0
    → Jl.Within R at W 1 params.rank params.multiplicity
p-room params R W h at e =
    record {
      matrices = subst (λ a. a + params.multiplicity * 256 * (64 * params.rank) ≤ length R) (sym e)
          (turned (start (randomness_sections (parameters_of params)) 0) params.rank params.multiplicity (length R) h.matrices);
      vectors = joined params.rank params.multiplicity (length W) h.vectors;
      narrow = up params.rank h.sized.within.n.1;
      few = up' params.multiplicity h.sized.within.r.1;
    }
  where
    turned : (a n r l : ℕ) → a + 16384 * n * r ≤ l → a + r * 256 * (64 * n) ≤ l
    turned a n r l k = omega arith

    joined : (n r l : ℕ) → 1 + 64 * (r * n) ≤ l → 1 + r * (64 * n) ≤ l
    joined n r l k = omega arith

    up : (n : ℕ) → n ≤ 64 → n ≤ 1024
    up n k = omega arith

    up' : (n : ℕ) → n ≤ 16 → n ≤ 32768
    up' n k = omega arith

-- the projection of a call that is handed the first section of randomness
pub projects : (m : ℕ) (J R W : List ℕ) (params : EnvironmentParameters) (regions : Regions) (S : List ℕ) → WorkGiven J W params regions S → Drawn m J R → 0 < m → Projects params R W
projects m J R W params regions S h d f =
    record {
      sized = ready-sized J params regions S h.ready;
      matrices = subst (λ P. start (randomness_sections P) 0 + 16384 * P.n * P.r ≤ length R) (sym h.ready.same) (Π-within m J R d f);
      vectors = s-room J W params regions S h;
    }
