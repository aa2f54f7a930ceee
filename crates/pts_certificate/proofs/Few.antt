-- No node has more than six numbers.
use Rattle.std.proofs.Common.{◌≡◌, ℕ, ◌≤◌, List, [], ◌∷◌, true, false, nat_le, if◌then◌else◌, Some, refl, arith}
use Rattle.std.specs.Prelude.{IfSome}
use Rattle.std.specs.List.{list_all}
use Rattle.pts_names.specs.Name.{same_name}
use Rattle.pts_record.specs.declared.shape.Form.{Form}
use Rattle.pts_certificate.specs.Rows.{row_of, node_rows}

few_in : (rows : List (List ℕ × (Form × ℕ))) (word : List ℕ) → list_all (λ row. nat_le row.1.1 6) rows ≡ true → IfSome (row_of rows word) (λ row. row.1 ≤ 6)
few_in [] word all = tt
few_in (row ∷ rows) word all =
    let first : row.1.1 ≤ 6 = grind (arith, all) in
    let later : list_all (λ row. nat_le row.1.1 6) rows ≡ true = grind (arith, all) in
    elim (same_name word row.0) as (λ b. IfSome (if b then Some row.1 else row_of rows word) (λ row. row.1 ≤ 6)) [ true ↦ first | false ↦ few_in rows word later ]

pub few : (word : List ℕ) → IfSome (row_of node_rows word) (λ row. row.1 ≤ 6)
few word = few_in node_rows word refl
