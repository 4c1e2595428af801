-- `multiply` meets its contract.
use mathlib.Core.Path.{◌∙◌, ap, ap₂}
use native.Mathlib.Omega.{arith}
use borrow.Author.Rules.{rules}
use lib.ListN.{get_or}
use mir.Val.{Fits}
use mir.Syntax.{w32}
use Rattle.ntt_product.specs.NttForm.{sums_of, inverse_ntt_of}
use Rattle.ntt_product.proofs.Residue.{Words}
use Rattle.ntt_product.proofs.Inner.{first-room, first-sums, one_product}
use Rattle.ntt_product.proofs.product.multiply.Goals as goal

pub add_product-sums-requires : goal.add_product-sums-requires
add_product-sums-requires c =
    let s = c.args in
    let wa : Words s.a = λ k l. let f : Fits w32 (get_or s.a k 0) = search rules in omega arith in
    let wb : Words s.b = λ k l. let f : Fits w32 (get_or s.b k 0) = search rules in omega arith in record {
      first = first-room 0 (omega arith) s.a s.b _ _ _ wa wb c.no_sums.ensures.0 c.transform-x.ensures.one c.transform-y.ensures.one;
      second = first-room 1 (omega arith) s.a s.b _ _ _
          wa wb c.no_sums.ensures.1 c.transform-x.ensures.two c.transform-y.ensures.two;
      third = first-room 2 (omega arith) s.a s.b _ _ _ wa wb c.no_sums.ensures.2 c.transform-x.ensures.three
          c.transform-y.ensures.three;
    }

pub returns : goal.returns
returns c =
    let s = c.args in
    let wa : Words s.a = λ k l. let f : Fits w32 (get_or s.a k 0) = search rules in omega arith in
    let wb : Words s.b = λ k l. let f : Fits w32 (get_or s.b k 0) = search rules in omega arith in
    let e = c.add_product-sums.ensures in
    let sums = c.add_product-sums.result in
    c.inverse.ensures
    ∙ ap₂ (λ x y. inverse_ntt_of x y sums.third)
    (first-sums 0 (omega arith) s.a s.b _ _ _ wa wb c.no_sums.ensures.0 c.transform-x.ensures.one
    c.transform-y.ensures.one sums.first e.first)
    (first-sums 1 (omega arith) s.a s.b _ _ _ wa wb c.no_sums.ensures.1 c.transform-x.ensures.two
    c.transform-y.ensures.two sums.second e.second)
    ∙ ap (inverse_ntt_of (sums_of 0 1 (λ m. s.a) (λ m. s.b)) (sums_of 1 1 (λ m. s.a) (λ m. s.b)))
    (first-sums 2 (omega arith) s.a s.b _ _ _ wa wb c.no_sums.ensures.2 c.transform-x.ensures.three
    c.transform-y.ensures.three sums.third e.third)
    ∙ one_product s.a s.b wa wb
