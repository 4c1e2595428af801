-- `add_left` meets its contract.
use mathlib.Core.Path.{◌≡◌, ◌∙◌, ap, sym, subst}
use native.Mathlib.Omega.{arith}
use Prim.Native.Nat.{◌*◌}
use Rattle.spec_protocol.specs.Parameters.{triangular}
use Rattle.load_constraints.specs.Sums.{Placed, Reduced}
use Rattle.load_constraints.proofs.Plus.{placed-plus, reduced-plus}
use Rattle.load_constraints.specs.Terms.{plus_both, rows_of}
use Rattle.load_constraints.proofs.Order.{left-added}
use Rattle.load_constraints.proofs.add_left.Goals.{After-add_triangle}
use Rattle.load_constraints.proofs.add_left.Goals as goal

-- what is stored of the triangles, by the number of their cells
triangles_added : (c : After-add_triangle)
    → let s = c.args in
    c.add_triangle.new.job ≡ plus_both s.job.now s.t s.a0 s.a (λ at. rows_of s.job.now at (triangular s.r) s.s.now s.s_at s.n s.r)
triangles_added c =
    let s = c.args in
    c.add_triangle.ensures ∙ ap (λ m. plus_both s.job.now s.t s.a0 s.a (λ at. rows_of s.job.now at m s.s.now s.s_at s.n s.r)) c.cells.ensures

pub add_triangle-requires : goal.add_triangle-requires
add_triangle-requires c =
    let T = c.cells.ensures in
    (subst (λ m. Placed c.args.job.now c.args.t c.args.a0 c.args.a m) (sym T) c.requires.0, c.requires.2, T, c.requires.3, omega arith, c.requires.5)

pub add_line-requires : goal.add_line-requires
add_line-requires c =
    let s = c.args in
    let h = c.requires in
    let e = triangles_added (goal.at.add_line-requires c).After-add_triangle in
    let F = rows_of s.job.now s.a0 (triangular s.r) s.s.now s.s_at s.n s.r in
    let G = rows_of s.job.now s.a (triangular s.r) s.s.now s.s_at s.n s.r in (
      subst (λ job. Placed job s.t s.phi0 s.phi (s.r * s.n)) (sym e) (placed-plus s.job.now s.t s.phi0 s.phi (s.r * s.n) h.1 F G),
      subst (λ job. Reduced job s.t) (sym e) (reduced-plus s.job.now s.t s.a0 s.a (triangular s.r) h.0 F G),
      omega arith,
    )

pub returns : goal.returns
returns c =
    let d = (goal.at.returns c).After-add_triangle in
    let s = c.args in
    let h = c.requires in
    left-added s.job.now _ _ s.t s.a0 s.a s.phi0 s.phi s.s.now s.s_at s.r s.n h.0 h.1 (triangles_added d) c.add_line.ensures
