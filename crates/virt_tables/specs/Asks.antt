-- What a table asks of a register by the names of its dimensions.
use Rattle.std.specs.Prelude.{ℕ, Option, option_map, List, Result, Ok}
use Rattle.reg_base.specs.declared.tables.AskedList.{AskedList}
use Rattle.reg_base.specs.declared.fault.TableFault.{TableFault}
use Rattle.reg_base.specs.declared.fault.TableFault.TheVariants.{UnknownField}
use Rattle.reg_base.specs.Results.{◌>>=◌, none_or}
use Rattle.cfg_model.specs.declared.register.Register.{Register}
use Rattle.cfg_model.specs.Asks.{wrong_name, filter_with, group_places}
use Rattle.virt_tables.specs.declared.ask.Ask.{Ask}

-- what is asked of the register at a place, or the first name that it can't be asked by
unfoldable pub asked_by : Register → ℕ → List AskedList → Option (List (List ℕ))
    → Result Ask TableFault
asked_by register place lists group = do
  _ ← none_or (option_map UnknownField (wrong_name register lists group))
  Ok (record {
    register = place;
    filter = filter_with register lists;
    group = group_places register group;
  })
