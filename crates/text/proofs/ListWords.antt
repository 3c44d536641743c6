-- The words that std has for what the definitions have words of their own for. Assumes nothing.
use Rattle.std.proofs.Common.{◌≡◌, List, Bool, ◌&&◌, refl}
use Rattle.std.specs.List.{list_all}
use Rattle.std.proofs.lemmas.List.Recursion.{same_from_clauses}
use Rattle.model.specs.Lists.{all}

pub list_all_is : {A : Type 0} (p : A → Bool) (xs : List A) → list_all p xs ≡ all p xs
list_all_is p xs = same_from_clauses (list_all p) (all p) (λ x b. p x && b) refl (λ x xs. refl) (λ x xs. refl) xs
