-- What the steps of narrowing by a frame come to. Assumes nothing.
use Rattle.std.proofs.Common.{◌≡◌, ℕ, ◌-◌, ◌≤◌, Bool, true, List, length, Ok, refl, arith}
use Rattle.std.proofs.lemmas.Bool.{false≢true}
use Rattle.rows.specs.Values.{Values}
use Rattle.rules.specs.Books.{sets, Narrows}
use Rattle.rules.specs.Rules.{Sets, In, LawfulRule, Supported}
use Rattle.rules.specs.Writes.{Written, OwnRows, none_left}
use Rattle.rules.proofs.WrittenBack.{all_written}
use Rattle.frames.specs.Parts.{fields, Summed, cut}
use Rattle.frames.specs.Reads.{sum_rule}
use Rattle.frames.specs.declared.record.Part.{Part}
use Rattle.frames.proofs.Supports.{kept_below, left_stands}

-- parts that are lawful for n fields have n rows or more
pub enough_rows : (parts : List Part) (limit n rows : ℕ) → LawfulRule n (sum_rule parts limit) → n ≤ rows → OwnRows (fields parts) rows
enough_rows parts limit n rows lawful enough = record { below = λ f h. omega (arith, lawful.below f h); distinct = lawful.apart }

module _ {R : Type 0} (values : R → Values) (parts : List Part) (limit n : ℕ) (before after : List R) (changed : Bool) (lawful : LawfulRule n (sum_rule parts limit)) (enough : n ≤ length before) where
  -- the rows are written as the rule supports
  narrows : (new : Sets) → Written values new (fields parts) (length (fields parts)) before after changed
      → ((f v : ℕ) → In f (fields parts) → new f v ≡ true → Supported (sets values before) (sum_rule parts limit) f v)
      → ((f v : ℕ) → In f (fields parts) → Supported (sets values before) (sum_rule parts limit) f v → new f v ≡ true)
      → (k : ℕ) → k ≤ 1023 → Narrows values (sum_rule parts limit) k n before after (Ok changed)
  narrows new written left kept k reach = record {
    accepted = λ _. all_written values new (fields parts) before (sum_rule parts limit) after changed refl written left kept;
    refused = λ unfit. absurd (unfit (record { reach = reach; enough = enough; lawful = lawful }));
  }

  -- a cut to the room that is left
  pub cut_narrows : (total : ℕ) → Summed (sets values before) parts total → total ≤ limit
      → Written values (cut (sets values before) (limit - total)) (fields parts) (length (fields parts)) before after changed
      → (k : ℕ) → k ≤ 1023 → Narrows values (sum_rule parts limit) k n before after (Ok changed)
  cut_narrows total sums fits written = narrows (cut (sets values before) (limit - total)) written
      (left_stands (sets values before) parts limit total sums fits lawful.apart)
      (kept_below (sets values before) parts limit total sums)

  -- no value where no line is allowed
  pub none_narrows : ((f v : ℕ) → Supported (sets values before) (sum_rule parts limit) f v → ⊥)
      → Written values none_left (fields parts) (length (fields parts)) before after changed
      → (k : ℕ) → k ≤ 1023 → Narrows values (sum_rule parts limit) k n before after (Ok changed)
  none_narrows none written = narrows none_left written (λ f v h e. absurd (false≢true e)) (λ f v h s. absurd (none f v s))
