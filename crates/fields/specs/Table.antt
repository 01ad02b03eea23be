-- The named fields of paper 01, "Fields, in order": their names, which of them are required, and their types. A field's number is its place in
-- `named`, from 0 on. A column is a binary here: which kind of column a field is plays no part in its type. No lemma stands here. Assumes nothing.
use Rattle.std.specs.Prelude.{ℕ}
use Rattle.fields.specs.Types.{Rows, array_of, exactly, map_with, last, an_integer, a_float, a_string, a_binary, required, optional, ◌then◌}

-- a map of groupList: a group type
unfoldable pub group_rows : Rows
group_rows =
    required "groupName" a_string
    then required "singleLetterCode" a_string
    then required "chemCompType" a_string
    then required "formalChargeList" (array_of an_integer)
    then required "atomNameList" (array_of a_string)
    then required "elementList" (array_of a_string)
    then optional "bondAtomList" (array_of an_integer)
    then optional "bondOrderList" (array_of an_integer)
    then last

-- a map of transformList
unfoldable pub transform_rows : Rows
transform_rows =
    required "chainIndexList" (array_of an_integer)
    then required "matrix" (exactly 16 a_float)
    then last

-- a map of bioAssemblyList
unfoldable pub assembly_rows : Rows
assembly_rows =
    required "name" a_string
    then required "transformList" (array_of (map_with transform_rows))
    then last

-- a map of entityList
unfoldable pub entity_rows : Rows
entity_rows =
    required "chainIndexList" (array_of an_integer)
    then required "description" a_string
    then required "type" a_string
    then required "sequence" a_string
    then last

-- the named fields of a file, in the paper's order
unfoldable pub named : Rows
named =
    required "mmtfVersion" a_string
    then required "mmtfProducer" a_string
    then required "numBonds" an_integer
    then required "numAtoms" an_integer
    then required "numGroups" an_integer
    then required "numChains" an_integer
    then required "numModels" an_integer
    then required "groupList" (array_of (map_with group_rows))
    then required "xCoordList" a_binary
    then required "yCoordList" a_binary
    then required "zCoordList" a_binary
    then required "groupIdList" a_binary
    then required "groupTypeList" a_binary
    then required "chainIdList" a_binary
    then required "groupsPerChain" (array_of an_integer)
    then required "chainsPerModel" (array_of an_integer)
    then optional "bondAtomList" a_binary
    then optional "bondOrderList" a_binary
    then optional "bFactorList" a_binary
    then optional "atomIdList" a_binary
    then optional "altLocList" a_binary
    then optional "occupancyList" a_binary
    then optional "secStructList" a_binary
    then optional "insCodeList" a_binary
    then optional "sequenceIdList" a_binary
    then optional "chainNameList" a_binary
    then optional "title" a_string
    then optional "structureId" a_string
    then optional "spaceGroup" a_string
    then optional "depositionDate" a_string
    then optional "releaseDate" a_string
    then optional "resolution" a_float
    then optional "rFree" a_float
    then optional "rWork" a_float
    then optional "unitCell" (exactly 6 a_float)
    then optional "experimentalMethods" (array_of a_string)
    then optional "ncsOperatorList" (array_of (exactly 16 a_float))
    then optional "bioAssemblyList" (array_of (map_with assembly_rows))
    then optional "entityList" (array_of (map_with entity_rows))
    then last

-- how many they are
abbrev pub field_count : ℕ
field_count = 39

-- how many of them are required
abbrev pub required_fields : ℕ
required_fields = 16
