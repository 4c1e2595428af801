-- One more word drawn, and one more section.
use mathlib.Core.Path.{◌≡◌, refl, sym, ap, ap₂, ◌∙◌}
use mathlib.Core.List.{List, [], ◌∷◌, ◌++◌, map, append_assoc, append-nil}
use Prim.Native.Nat.{ℕ, zero, suc, ◌+◌, ◌≤◌, ◌<◌}
use native.Mathlib.Numerals.{add-one}
use native.Mathlib.Omega.{arith}
use lib.ListN.{length, get_or, set, take, length-append, length-replicate}
use Rattle.math.proofs.lists.Table.{length-table, table-suc, table-get_or, map-table, take-table}
use Rattle.math.specs.lists.Table.{table}
use Rattle.math.specs.lists.Part.{splice}
use Rattle.math.proofs.lists.Splice.{splice-nil, splice-append, splice-replicate-next}
use Rattle.math.proofs.lists.Fill.{splice-table-next}
use Rattle.spec_protocol.specs.Layout.{Section, span, sections}
use Rattle.spec_protocol.specs.Load.{Rule, by, later, state, words_by, state_by, drawn, after}
use Rattle.layout_sections.specs.declared.sections.Section as S
use Rattle.layout_sections.specs.Sections.{section_of, listed}
use Rattle.layout_sections.proofs.Spans.{item, take-listed, span-append, span-room}
use Rattle.load_draw.specs.declared.Rule as C
use Rattle.load_draw.specs.declared.Rule.TheVariants as R
use Rattle.load_draw.specs.Rules.{rule_of, rules_of, step, value_by}

-- no words
pub none-drawn : (l : List ℕ) (at : ℕ) (rule : Rule) (x : ℕ) → l ≡ splice l at (words_by rule x 0)
unfolding table
none-drawn l at (by f) x = sym (splice-nil l at)
none-drawn l at later x = sym (splice-nil l at)

pub state-none : (rule : Rule) (x : ℕ) → x ≡ state_by rule x 0
unfolding state
state-none (by f) x = refl
state-none later x = refl

-- one more word: the state before it
pub state-next : (rule : Rule) (x k : ℕ) → step rule (state_by rule x k) ≡ state_by rule x (k + 1)
unfolding state
state-next (by f) x k = ap (state x) (sym (add-one k))
state-next later x k = refl

-- and the word
pub words-next : (l : List ℕ) (at : ℕ) (rule : Rule) (x k : ℕ) → set (splice l at (words_by rule x k)) (at + k) (value_by rule (state_by rule x (k + 1))) ≡ splice l at (words_by rule x (k + 1))
words-next l at (by f) x k = splice-table-next l at k (λ k. f (state x (k + 1))) (f (state x (k + 1))) refl
words-next l at later x k = splice-replicate-next 0 l at k

-- as many words as asked for
pub length-words_by : (rule : Rule) (x count : ℕ) → length (words_by rule x count) ≡ count
length-words_by (by f) x count = length-table count (λ k. f (state x (k + 1)))
length-words_by later x count = length-replicate {A = ℕ} count 0

-- one more section
drawn-one_more : (rules : List Rule) (ss : List Section) (rule : Rule) (s : Section) (x : ℕ) → length rules ≡ length ss
    → drawn x (rules ++ (rule ∷ [])) (ss ++ (s ∷ [])) ≡ drawn x rules ss ++ (words_by rule (after x rules ss) s.count ∷ [])
unfolding drawn after
drawn-one_more [] [] rule s x e = refl
drawn-one_more [] (t ∷ ss) rule s x e = absurd (omega arith)
drawn-one_more (r ∷ rules) [] rule s x e = absurd (omega arith)
drawn-one_more (r ∷ rules) (t ∷ ss) rule s x e = ap (λ l. words_by r x t.count ∷ l) (drawn-one_more rules ss rule s (state_by r x t.count) (omega arith))

after-one_more : (rules : List Rule) (ss : List Section) (rule : Rule) (s : Section) (x : ℕ) → length rules ≡ length ss
    → after x (rules ++ (rule ∷ [])) (ss ++ (s ∷ [])) ≡ state_by rule (after x rules ss) s.count
unfolding after
after-one_more [] [] rule s x e = refl
after-one_more [] (t ∷ ss) rule s x e = absurd (omega arith)
after-one_more (r ∷ rules) [] rule s x e = absurd (omega arith)
after-one_more (r ∷ rules) (t ∷ ss) rule s x e = after-one_more rules ss rule s (state_by r x t.count) (omega arith)

sections-one_more : (wss : List (List ℕ)) (ws : List ℕ) → sections (wss ++ (ws ∷ [])) ≡ sections wss ++ (length ws ∷ ws)
unfolding sections
sections-one_more [] ws = append-nil (length ws ∷ ws)
sections-one_more (v ∷ wss) ws = ap (λ l. (length v ∷ v) ++ l) (sections-one_more wss ws) ∙ sym (append_assoc (length v ∷ v) (sections wss) (length ws ∷ ws))

-- rules and sections by their index
module _ (x : ℕ) (ρ : ℕ → Rule) where
  -- the sections drawn so far, and the state reached
  abbrev pub drawn_to : (ℕ → Section) → ℕ → List (List ℕ)
  drawn_to σ m = drawn x (table m ρ) (table m σ)

  abbrev pub reached : (ℕ → Section) → ℕ → ℕ
  reached σ m = after x (table m ρ) (table m σ)

  same_lengths : (σ : ℕ → Section) (m : ℕ) → length (table m ρ) ≡ length (table m σ)
  same_lengths σ m = length-table m ρ ∙ sym (length-table m σ)

  pub drawn-suc : (σ : ℕ → Section) (m : ℕ) → drawn_to σ (m + 1) ≡ drawn_to σ m ++ (words_by (ρ m) (reached σ m) (σ m).count ∷ [])
  drawn-suc σ m = ap₂ (drawn x) (table-suc m ρ) (table-suc m σ) ∙ drawn-one_more (table m ρ) (table m σ) (ρ m) (σ m) x (same_lengths σ m)

  pub reached_suc : (σ : ℕ → Section) (m : ℕ) → reached σ (m + 1) ≡ state_by (ρ m) (reached σ m) (σ m).count
  reached_suc σ m = ap₂ (after x) (table-suc m ρ) (table-suc m σ) ∙ after-one_more (table m ρ) (table m σ) (ρ m) (σ m) x (same_lengths σ m)

  -- the words that they take, counts included
  length-drawn : (σ : ℕ → Section) (m : ℕ) → length (sections (drawn_to σ m)) ≡ span (table m σ)
  unfolding table drawn sections span
  length-drawn σ zero = refl
  length-drawn σ (suc m) =
      let last = words_by (ρ m) (reached σ m) (σ m).count in
      ap (λ l. length (sections l)) (drawn-one_more (table m ρ) (table m σ) (ρ m) (σ m) x (same_lengths σ m))
      ∙ ap length (sections-one_more (drawn_to σ m) last)
      ∙ length-append (sections (drawn_to σ m)) (length last ∷ last)
      ∙ omega (arith, length-drawn σ m, length-words_by (ρ m) (reached σ m) (σ m).count, span-append (table m σ) (σ m ∷ []))

  -- one more section stored after those so far
  pub stored_next : (σ : ℕ → Section) (l : List ℕ) (at m : ℕ) (before after : List ℕ) (place y : ℕ)
      → before ≡ splice l at (sections (drawn_to σ m))
      → place ≡ at + span (table m σ)
      → y ≡ reached σ m
      → after ≡ splice before place ((σ m).count ∷ words_by (ρ m) y (σ m).count)
      → after ≡ splice l at (sections (drawn_to σ (m + 1)))
  stored_next σ l at m before after place y e p r stored =
      let last = words_by (ρ m) (reached σ m) (σ m).count in
      stored
      ∙ ap (λ y. splice before place ((σ m).count ∷ words_by (ρ m) y (σ m).count)) r
      ∙ ap₂ (λ w p. splice w p ((σ m).count ∷ last)) e (p ∙ ap (λ n. at + n) (sym (length-drawn σ m)))
      ∙ splice-append l at (sections (drawn_to σ m)) ((σ m).count ∷ last)
      ∙ ap (λ n. splice l at (sections (drawn_to σ m) ++ (n ∷ last))) (sym (length-words_by (ρ m) (reached σ m) (σ m).count))
      ∙ ap (splice l at) (sym (sections-one_more (drawn_to σ m) last) ∙ ap sections (sym (drawn-suc σ m)))

  -- only the counts matter
  pub drawn_counts : (σ τ : ℕ → Section) → ((i : ℕ) → (σ i).count ≡ (τ i).count) → (m : ℕ) → (drawn_to σ m ≡ drawn_to τ m) × (reached σ m ≡ reached τ m)
  unfolding table
  drawn_counts σ τ same zero = (refl, refl)
  drawn_counts σ τ same (suc m) =
      let ih = drawn_counts σ τ same m in (
        drawn-one_more (table m ρ) (table m σ) (ρ m) (σ m) x (same_lengths σ m)
            ∙ ap₂ (λ l w. l ++ (w ∷ [])) ih.0 (ap₂ (words_by (ρ m)) ih.1 (same m))
            ∙ sym (drawn-one_more (table m ρ) (table m τ) (ρ m) (τ m) x (same_lengths τ m)),
        after-one_more (table m ρ) (table m σ) (ρ m) (σ m) x (same_lengths σ m)
            ∙ ap₂ (state_by (ρ m)) ih.1 (same m)
            ∙ sym (after-one_more (table m ρ) (table m τ) (ρ m) (τ m) x (same_lengths τ m)),
      )

-- rule m and section m of a slice
abbrev pub rule_at : List C.Rule → ℕ → Rule
rule_at rules m = rule_of (get_or rules m R.Word)

abbrev pub section_at : List S.Section → ℕ → Section
section_at ss m = section_of (item ss m)

-- sections and rules by their index
pub listed-table : (ss : List S.Section) (n : ℕ) → length ss ≡ n → listed ss ≡ table n (section_at ss)
unfolding listed
listed-table ss n e = ap (map section_of) (sym (table-get_or n ss (record { count = 0; greatest = 0 }) e)) ∙ map-table section_of n (item ss)

pub rules-table : (rules : List C.Rule) (n : ℕ) → length rules ≡ n → rules_of rules ≡ table n (rule_at rules)
unfolding rules_of
rules-table rules n e = ap (map rule_of) (sym (table-get_or n rules R.Word e)) ∙ map-table rule_of n (λ i. get_or rules i R.Word)

-- the words of the sections before section m, and one more
pub span-before : (ss : List S.Section) (m : ℕ) → m ≤ length ss → span (listed (take m ss)) ≡ span (table m (section_at ss))
span-before ss m h = ap span (sym (take-listed m ss) ∙ ap (take m) (listed-table ss (length ss) refl) ∙ take-table m (length ss) (section_at ss) h)

pub span-more : (ss : List S.Section) (m : ℕ) → span (table (m + 1) (section_at ss)) ≡ span (table m (section_at ss)) + (1 + (item ss m).count)
unfolding span
span-more ss m = ap span (table-suc m (section_at ss)) ∙ span-append (table m (section_at ss)) (section_at ss m ∷ []) ∙ omega arith

-- one more section takes no more than all of them
pub room_next : (ss : List S.Section) (m : ℕ) → m < length ss → span (table m (section_at ss)) + (1 + (item ss m).count) ≤ span (listed ss)
room_next ss m h = omega (arith, span-before ss m (omega arith), span-room ss m h)
