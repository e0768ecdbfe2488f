use Rattle.std.proofs.Common.{refl, subst, rules}
use native.Mathlib.Nat.{sub-zero}
use Rattle.commands.specs.declared.Command.TheVariants.{Put, Lookup, Remove}
use Rattle.commands.specs.Lines.{Means}
use Rattle.store.specs.Tables.{meaning}
use Rattle.lots.proofs.obey.obey.Goals as goal

pub returns-in-Put : goal.returns-in-Put
returns-in-Put g c =
    record {
      code = c.parse-c.new.code;
      long = search rules;
      command = Put c.in-Put.k c.in-Put.place c.in-Put.mode;
      means = subst (Means c.args.line.now c.parse-c.new.code) c.in-Put.is c.parse-c.ensures;
      fits = search rules;
      does = record { answer = meaning c.put_known.result; made = simp sub-zero at c.put_known.ensures; told = c.wrote.ensures };
    }

pub returns-in-Lookup : goal.returns-in-Lookup
returns-in-Lookup g c =
    record {
      code = c.parse-c.new.code;
      long = search rules;
      command = Lookup c.in-Lookup.k;
      means = subst (Means c.args.line.now c.parse-c.new.code) c.in-Lookup.is c.parse-c.ensures;
      fits = tt;
      does = (record { answer = meaning c.lookup_known.result; made = (simp sub-zero at c.lookup_known.ensures, refl); told = c.told.ensures }, refl);
    }

pub returns-in-Remove : goal.returns-in-Remove
returns-in-Remove g c =
    record {
      code = c.parse-c.new.code;
      long = search rules;
      command = Remove c.in-Remove.k;
      means = subst (Means c.args.line.now c.parse-c.new.code) c.in-Remove.is c.parse-c.ensures;
      fits = tt;
      does = record { answer = meaning c.remove_known.result; made = simp sub-zero at c.remove_known.ensures; told = c.wrote-in-Remove.ensures };
    }
