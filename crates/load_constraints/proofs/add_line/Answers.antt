-- `add_line` meets its contract.
use Rattle.ring_inner_product.specs.Run.{run}
use Rattle.load_constraints.specs.Sums.{terms}
use Rattle.load_constraints.proofs.Line.{numbers_placed, numbers_reduced, line_before, line_canonical, line_added}
use Rattle.load_constraints.proofs.add_line.Goals as goal

pub add_terms-requires : goal.add_terms-requires
add_terms-requires c =
    let s = c.args in
    (numbers_placed s.job.now s.t s.base0 s.base s.m c.requires.0, numbers_reduced s.job.now s.t s.base0 s.base s.m c.requires.0 c.requires.1, c.requires.2)

pub add_products-requires : goal.add_products-requires
add_products-requires c =
    let s = c.args in
    let ω = run s.s.now s.s_at 64 in
    let F = terms s.job.now s.base0 s.m 0 s.m ω in
    let G = terms s.job.now s.base s.m 0 s.m ω in
    let e = c.add_terms.ensures in (
      line_before s.job.now s.t s.base0 s.base s.m c.requires.0 _ F G e,
      line_canonical s.job.now s.t s.base0 s.base s.m c.requires.0 _ F G e c.requires.1,
      c.requires.2,
    )

pub returns : goal.returns
returns c =
    let s = c.args in
    line_added s.job.now _ _ s.t s.base0 s.base s.m (run s.s.now s.s_at 64) c.requires.0
    c.add_terms.ensures c.add_products.ensures
