-- `store_ntt_form` meets its contract.
use Rattle.ntt_vectors.proofs.Stored.{values-stored}
use Rattle.ntt_vectors.proofs.vectors.store_ntt_form.Goals as goal

pub returns : goal.returns
returns c =
    let t = c.transform-t in
    values-stored _ _ _ _ _ _ _ _ _ t.ensures c.store.ensures
    c.store-2.ensures c.store-3.ensures
