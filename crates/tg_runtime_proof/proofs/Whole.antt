-- The runtime serves: each of its functions does what its standard function does.
use Rattle.tg_tree.specs.Actions.{World}
use Rattle.tg_runtime_proof.specs.Settings.{Host, RunsBySteps}
use Rattle.tg_runtime_proof.specs.laws.Serving.{MayCall, RuntimeIsCorrect}
use Rattle.tg_runtime_proof.proofs.Serves.{Situation}
use Rattle.tg_runtime_proof.proofs.Simples as simples
use Rattle.tg_runtime_proof.proofs.Arrays as arrays
use Rattle.tg_runtime_proof.proofs.Comparing as comparing
use Rattle.tg_runtime_proof.proofs.Printing as printing
use Rattle.tg_runtime_proof.proofs.Reading as reading
use Rattle.tg_runtime_proof.proofs.Bytewise as bytewise
use Rattle.tg_runtime_proof.proofs.Parts as parts
use Rattle.tg_runtime_proof.proofs.Sums as sums

abbrev situation : (host : Host) (w : World) → RunsBySteps host → MayCall host w → Situation
situation host w runs may =
    record { host = host; has = may.has; runs = runs; world = w; memory = may.memory }

pub runtime_is_correct : RuntimeIsCorrect
runtime_is_correct host w runs may =
    let call : Situation = situation host w runs may in
    record {
      makes_record = λ n. simples.makes_record call n;
      makes_array = λ n v sign n_small v_small. arrays.makes_array call n v v_small n_small sign;
      refuses_size = λ n v sign n_small. arrays.refuses_size call n v sign;
      compares = λ a b x y s r. comparing.compares call a b x y s r;
      prints = λ a x s. printing.prints call a x s;
      flushes = simples.flushes call;
      reads = reading.reads call may.input;
      gives_byte = λ a x s. bytewise.gives_byte call a x s;
      makes_byte = λ i low. bytewise.makes_byte call i low;
      refuses_byte = λ i high small. bytewise.refuses_byte call i high;
      gives_size = λ a x s. simples.gives_size call a x s;
      makes_part = λ a first n x s inside. parts.makes_part call a first n x s inside;
      refuses_part = λ a first n x s out first_small n_small. parts.refuses_part call a first n x s out first_small
          n_small;
      makes_sum = λ a b x y s r. sums.makes_sum call a b x y s r;
      negates = λ i. simples.negates call i;
      exits = λ i. simples.exits call i;
    }
