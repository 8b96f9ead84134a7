use Rattle.pnm_samples.proofs.Words.{List, ℕ, [], ◌∷◌}
use Rattle.pnm_samples.proofs.ColumnLaws.{lanes_of_sixteen, sixteen_cases}
use Rattle.pnm_samples.proofs.transpose.lanes_beside.Goals as goal

pub returns-clause-lanes : goal.returns-clause-lanes
returns-clause-lanes c k lt =
    let read : List (List ℕ) =
    c.sixteen_bytes.result ∷ c.sixteen_bytes-2.result ∷ c.sixteen_bytes-3.result ∷ c.sixteen_bytes-4.result ∷ c.sixteen_bytes-5.result
    ∷ c.sixteen_bytes-6.result ∷ c.sixteen_bytes-7.result ∷ c.sixteen_bytes-8.result ∷ c.sixteen_bytes-9.result ∷ c.sixteen_bytes-10.result
    ∷ c.sixteen_bytes-11.result ∷ c.sixteen_bytes-12.result ∷ c.sixteen_bytes-13.result ∷ c.sixteen_bytes-14.result ∷ c.sixteen_bytes-15.result
    ∷ c.sixteen_bytes-16.result ∷ [] in
    lanes_of_sixteen c.args.rows.now read c.args.at c.requires.count c.transposed.ensures.square c.transposed.ensures.exchanged
    (sixteen_cases _ c.sixteen_bytes.ensures.bytes c.sixteen_bytes-2.ensures.bytes c.sixteen_bytes-3.ensures.bytes c.sixteen_bytes-4.ensures.bytes
    c.sixteen_bytes-5.ensures.bytes c.sixteen_bytes-6.ensures.bytes c.sixteen_bytes-7.ensures.bytes c.sixteen_bytes-8.ensures.bytes
    c.sixteen_bytes-9.ensures.bytes c.sixteen_bytes-10.ensures.bytes c.sixteen_bytes-11.ensures.bytes c.sixteen_bytes-12.ensures.bytes
    c.sixteen_bytes-13.ensures.bytes c.sixteen_bytes-14.ensures.bytes c.sixteen_bytes-15.ensures.bytes c.sixteen_bytes-16.ensures.bytes) k lt
