-- What holds of every reached world, by the laws of tables, of lawful packets, of connections and of ports.
use Rattle.table_laws.proofs.Dependencies.{active-of_set}
use Rattle.lawful_laws.proofs.Lawful.{unflipped-lawful, limbo-lawful}
use Rattle.message_laws.proofs.Buffers.{provided-untouched}
use Rattle.message_laws.proofs.Fillings.{coming-tied}
use Rattle.message_laws.proofs.Honest.{traffic-honest}
use Rattle.message_laws.proofs.Matched.{queue-unfinished, each-once}
use Rattle.message_laws.proofs.Sound.{reached-sound}
use Rattle.message_laws.proofs.Windows.{windows-hold}
use Rattle.promise_laws.specs.Moments.{ReachedWorldsAreRight}

pub reached_worlds_are_right : ReachedWorldsAreRight
reached_worlds_are_right n w is = record {
  sound = reached-sound n w is;
  tables = λ h t active. active-of_set n w h t is active;
  lawful = record {
    in_channels = λ c held there unmarked. unflipped-lawful n w c held is there unmarked;
    in_limbo = λ place serial caught there unmarked. limbo-lawful n w place serial caught is there unmarked;
  };
  windows = windows-hold n w is;
  honest = traffic-honest n w is;
  sends = λ h. record {
    matched = queue-unfinished n w is h;
    each = λ port place p s here there. each-once n w is h port place p s here there;
  };
  parts = coming-tied n w is;
  untouched = λ h port p here. provided-untouched n w is h port p here;
}
