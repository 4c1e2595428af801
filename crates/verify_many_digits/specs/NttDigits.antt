-- The digits of t, g and h of every transcript in NTT form in its window.
use Rattle.std.specs.Prelude.{◌≡◌, Bool, true, cond, List, ℕ, ◌*◌, ◌≤◌, ◌<◌}
use Rattle.math.specs.lists.Part.{splice}
use Rattle.spec_protocol.specs.Parameters.{Parameters, parameters}
use Rattle.spec_protocol.specs.Layout.{scratch_need}
use Rattle.spec_protocol.specs.Many.{transcript_part, products_at}
use Rattle.ntt_vectors.specs.NttForm.{NttForm, ntt_words}
use Rattle.verify_many_windows.specs.Digits.{digit_count, window_digits}

-- they have room before the products
abbrev pub NttFitting : Parameters → Type 0
NttFitting P = 192 * digit_count P ≤ products_at P

-- the scratch after they are stored for transcript m, where it passes
abbrev pub ntt_digits_for : Parameters → (T : List ℕ) (count m start : ℕ) → (pass : Bool) → List ℕ → List ℕ
ntt_digits_for P T count m start pass S = cond pass (splice S start (ntt_words (window_digits P (transcript_part P count T m)) 0 (digit_count P))) S

-- a slice holds those of transcript m from a place on
abbrev pub NttFormDigits : Parameters → (T : List ℕ) (count m start : ℕ) → List ℕ → Type 0
NttFormDigits P T count m start S = NttForm S start (window_digits P (transcript_part P count T m)) 0 (digit_count P)

-- those of every transcript that passes stand at the start of its window
abbrev pub AllNttDigits : (J : List ℕ) → (count : ℕ) → (passes : ℕ → Bool) → (T S : List ℕ) → Type 0
AllNttDigits J count passes T S = (m : ℕ) → m < count → passes m ≡ true → NttFormDigits (parameters J) T count m (m * scratch_need (parameters J)) S
